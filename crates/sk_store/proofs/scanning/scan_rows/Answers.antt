use Rattle.std.proofs.Common.{◌≡◌, ◌++◌, ◌∷◌, [], length, map, sym, ap, subst, ◌∙◌, arith, rules}
use Rattle.std.proofs.lemmas.Iterator.Consumers.{YieldsList-turn, YieldsList-so_far, YieldsList-end, YieldsList-from_rest}
use Rattle.std.proofs.lemmas.List.{map-append}
use Rattle.sk_chain.specs.Reading.{Sight, found}
use Rattle.sk_store.specs.Scanning.{HasRead, row_listed, waits_for, with_sights}
use Rattle.sk_rows.specs.declared.value.Value.{Value}
use Rattle.sk_store.specs.declared.head.Head.{Head}
use Rattle.sk_store.proofs.Scans.{more_read}
use Rattle.sk_store.proofs.Tables.{end_scan, entry_shows, stop_scan}
use Rattle.sk_store.proofs.scanning.scan_rows.Goals as goal

pub returns-in-Err-clause-scans : goal.returns-in-Err-clause-scans
returns-in-Err-clause-scans g c = λ cells chain h s order.
    let entries = c.args.heads.now.entries in
    let all = YieldsList-from_rest entries c.into_iter-key-iterator.ensures.into_iter_gives.0 in
    let t = YieldsList-turn all c.loop-key.yielded _ c.loop-key.yielded_by _ _ (c.in-Some.key, c.in-Some.head) c.in-Some.is c.next.ensures.steps in
    let so_far = YieldsList-so_far all c.loop-key.yielded _ c.loop-key.yielded_by in
    let i = c.loop-key.invariant in
    let read = i.so_far cells chain h s order in
    let told = g.P.Pages.told in
    let columns = c.args.table.now.columns in
    let n = length c.loop-key.yielded in
    let d : Value × Head = (c.in-Some.key.now, c.in-Some.head.now) in
    let before = g.P.Pages.faults c.args.pages.now in
    let now = g.P.Pages.faults c.read_head.new.pages in
    stop_scan told before now cells columns entries chain c.args.by c.args.snapshot s order n d (g.P.Pages.faults c.loop-key.pages) c.in-Err.fault t.0 t.1
    (ap (λ es. waits_for (with_sights (λ q. found (chain q) c.args.by c.args.snapshot) es)) (sym so_far) ∙ read.free) i.later
    (c.in-Err.ensures.reads cells (chain c.in-Some.key.now) (i.keeps cells h) (entry_shows told before now cells columns entries chain c.args.by c.args.snapshot s order n d t.0 t.1))

pub loop-key-preserved : goal.loop-key-preserved
loop-key-preserved g c =
    let entries = c.args.heads.now.entries in
    let all = YieldsList-from_rest entries c.into_iter-key-iterator.ensures.into_iter_gives.0 in
    let t = YieldsList-turn all c.loop-key.yielded _ c.loop-key.yielded_by _ _ (c.in-Some.key, c.in-Some.head) c.in-Some.is c.next.ensures.steps in
    let i = c.loop-key.invariant in
    let told = g.P.Pages.told in
    let columns = c.args.table.now.columns in
    let n = length c.loop-key.yielded in
    let d : Value × Head = (c.in-Some.key.now, c.in-Some.head.now) in
    let before = g.P.Pages.faults c.args.pages.now in
    let now = g.P.Pages.faults c.read_head.new.pages in
    let added : c.add_row.new.rows ≡ c.loop-key.rows ++ row_listed c.in-Some.key.now c.in-Ok.row = search rules in
    record {
      later = omega (arith, i.later, c.read_head.ensures.later);
      keeps = λ cells h. c.read_head.ensures.keeps cells (i.keeps cells h);
      so_far = λ cells chain h s order.
          let sight : Value → Sight = λ q. found (chain q) c.args.by c.args.snapshot in
          let shown = entry_shows told before now cells columns entries chain c.args.by c.args.snapshot s order n d t.0 t.1 in
          let more = more_read told (g.P.Pages.faults c.loop-key.pages) now columns (with_sights sight (map (λ e. (e.0.now, e.1.now)) c.loop-key.yielded)) c.loop-key.rows c.in-Some.key.now (sight c.in-Some.key.now) c.in-Ok.row
          (i.so_far cells chain h s order) (c.in-Ok.ensures.reads cells (chain c.in-Some.key.now) (i.keeps cells h) shown) (c.in-Ok.ensures.fits shown.fit) in
          let keys = ap (with_sights sight) (map-append (λ e. (e.0.now, e.1.now)) c.loop-key.yielded ((c.in-Some.key, c.in-Some.head) ∷ [])) ∙ map-append (λ e. (e.0, sight e.0)) (map (λ e. (e.0.now, e.1.now)) c.loop-key.yielded) (d ∷ []) in
          subst (λ es. HasRead told columns es c.add_row.new.rows) (sym keys)
          (subst (λ rs. HasRead told columns (with_sights sight (map (λ e. (e.0.now, e.1.now)) c.loop-key.yielded) ++ (c.in-Some.key.now, sight c.in-Some.key.now) ∷ []) rs) (sym added) more);
    }

pub returns-clause-scans : goal.returns-clause-scans
returns-clause-scans g c = λ cells chain h s order.
    let entries = c.args.heads.now.entries in
    let all = YieldsList-from_rest entries c.into_iter-key-iterator.ensures.into_iter_gives.0 in
    let whole = (YieldsList-end all c.loop-key.yielded _ c.loop-key.yielded_by _ _ c.in-None.is c.next.ensures.steps).0 in
    let i = c.loop-key.invariant in
    let told = g.P.Pages.told in
    let columns = c.args.table.now.columns in
    end_scan told (g.P.Pages.faults c.args.pages.now) (g.P.Pages.faults c.loop-key.pages) cells columns entries chain c.args.by c.args.snapshot s order c.loop-key.rows
    (subst (λ es. HasRead told columns (with_sights (λ q. found (chain q) c.args.by c.args.snapshot) es) c.loop-key.rows) whole (i.so_far cells chain h s order))
