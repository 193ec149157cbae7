use Rattle.std.proofs.Common.{◌≢◌, ℕ, List, length, ap, subst, arith, ◌∙◌}
use Rattle.std.proofs.lemmas.Result.{on_ok_weaker}
use Rattle.sk_recover.specs.Making.{AllImages}
use Rattle.sk_recover.proofs.Made.{Ready, joined, other_can, other_same, remade, entry_same, is_ready, gate_same, gate_made, entry_len}
use Rattle.sk_recover.proofs.making.make_store.Goals as goal

pub returns-in_err-put-clause-steps : goal.returns-in_err-put-clause-steps
returns-in_err-put-clause-steps g c = λ catalog start empty is chosen a b long tells.
    let ne5 : 0 ≢ 5 = omega arith in
    other_same g.D.Device.disk catalog c.args.image.now start c.args.needed 5 0 _ _ _ ne5 (c.requires tells) c.put.ensures.steps

pub returns-in_err-put-2-clause-steps : goal.returns-in_err-put-2-clause-steps
returns-in_err-put-2-clause-steps g c = λ catalog start empty is chosen a b long tells.
    let disk = g.D.Device.disk in
    let text = c.args.image.now in
    let ne5 : 0 ≢ 5 = omega arith in
    let ne2 : 0 ≢ 2 = omega arith in
    joined disk catalog text start _ _ _ (other_same disk catalog text start c.args.needed 5 0 _ _ _ ne5 (c.requires tells) c.put.ensures.steps)
    (other_same disk catalog text start c.args.needed 2 0 _ _ _ ne2 (other_can disk catalog text start c.args.needed 5 0 _ _ _ ne5 (c.requires tells) c.put.ensures.steps) c.put-2.ensures.steps)

pub returns-in_err-shut_root-clause-steps : goal.returns-in_err-shut_root-clause-steps
returns-in_err-shut_root-clause-steps g c = λ catalog start empty is chosen a b long tells.
    let disk = g.D.Device.disk in
    let text = c.args.image.now in
    let ne5 : 0 ≢ 5 = omega arith in
    let ne2 : 0 ≢ 2 = omega arith in
    joined disk catalog text start _ _ _ (joined disk catalog text start _ _ _ (other_same disk catalog text start c.args.needed 5 0 _ _ _ ne5 (c.requires tells) c.put.ensures.steps)
    (other_same disk catalog text start c.args.needed 2 0 _ _ _ ne2 (other_can disk catalog text start c.args.needed 5 0 _ _ _ ne5 (c.requires tells) c.put.ensures.steps) c.put-2.ensures.steps))
    (remade disk catalog text start _ _ (c.shut_root.ensures.steps catalog start tells))

pub returns-in_err-put-3-clause-steps : goal.returns-in_err-put-3-clause-steps
returns-in_err-put-3-clause-steps g c = λ catalog start empty is chosen a b long tells.
    let disk = g.D.Device.disk in
    let text = c.args.image.now in
    let ne5 : 0 ≢ 5 = omega arith in
    let ne2 : 0 ≢ 2 = omega arith in
    joined disk catalog text start _ _ _ (joined disk catalog text start _ _ _ (joined disk catalog text start _ _ _ (other_same disk catalog text start c.args.needed 5 0 _ _ _ ne5 (c.requires tells) c.put.ensures.steps)
    (other_same disk catalog text start c.args.needed 2 0 _ _ _ ne2 (other_can disk catalog text start c.args.needed 5 0 _ _ _ ne5 (c.requires tells) c.put.ensures.steps) c.put-2.ensures.steps))
    (remade disk catalog text start _ _ (c.shut_root.ensures.steps catalog start tells)))
    (entry_same disk catalog text start _ _ _ (ap (λ (l : List ℕ). length l) is ∙ entry_len start (length c.args.image.now)) (c.in_ok-shut_root.ensures.shut tells) c.put-3.ensures.steps)

pub returns-clause-steps : goal.returns-clause-steps
returns-clause-steps g c = λ catalog start empty is chosen a b long tells.
    let disk = g.D.Device.disk in
    let text = c.args.image.now in
    let ne5 : 0 ≢ 5 = omega arith in
    let ne2 : 0 ≢ 2 = omega arith in
    let ready = is_ready disk catalog text start c.args.entry.now _ _ _ _ (ap (λ (l : List ℕ). length l) is ∙ entry_len start (length c.args.image.now)) (c.in_ok-put.ensures.stands tells) c.put-2.ensures.steps (c.in_ok-put-2.ensures.stands tells)
    (c.shut_root.ensures.steps catalog start tells) (c.in_ok-shut_root.ensures.shut tells) c.put-3.ensures.steps (c.in_ok-put-3.ensures.stands tells) in
    joined disk catalog text start _ _ _ (joined disk catalog text start _ _ _ (joined disk catalog text start _ _ _ (joined disk catalog text start _ _ _ (other_same disk catalog text start c.args.needed 5 0 _ _ _ ne5 (c.requires tells) c.put.ensures.steps)
    (other_same disk catalog text start c.args.needed 2 0 _ _ _ ne2 (other_can disk catalog text start c.args.needed 5 0 _ _ _ ne5 (c.requires tells) c.put.ensures.steps) c.put-2.ensures.steps))
    (remade disk catalog text start _ _ (c.shut_root.ensures.steps catalog start tells)))
    (entry_same disk catalog text start _ _ _ (ap (λ (l : List ℕ). length l) is ∙ entry_len start (length c.args.image.now)) (c.in_ok-shut_root.ensures.shut tells) c.put-3.ensures.steps))
    (gate_same disk catalog text start empty chosen a b long _ _ (subst (λ (l : List ℕ). AllImages disk (Ready text l) c.put-3.new.disk) is ready) c.put-4.ensures.steps)

pub returns-clause-made : goal.returns-clause-made
returns-clause-made g c = λ catalog start empty is chosen a b long tells.
    let disk = g.D.Device.disk in
    let text = c.args.image.now in
    let ready = is_ready disk catalog text start c.args.entry.now _ _ _ _ (ap (λ (l : List ℕ). length l) is ∙ entry_len start (length c.args.image.now)) (c.in_ok-put.ensures.stands tells) c.put-2.ensures.steps (c.in_ok-put-2.ensures.stands tells)
    (c.shut_root.ensures.steps catalog start tells) (c.in_ok-shut_root.ensures.shut tells) c.put-3.ensures.steps (c.in_ok-put-3.ensures.stands tells) in
    on_ok_weaker c.put-4.result (λ gate. gate_made disk catalog text start empty chosen a b long _ _ (subst (λ (l : List ℕ). AllImages disk (Ready text l) c.put-3.new.disk) is ready) c.put-4.ensures.steps gate) (c.put-4.ensures.stands tells)
