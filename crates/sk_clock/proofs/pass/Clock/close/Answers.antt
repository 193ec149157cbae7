use Rattle.std.proofs.Common.{◌≡◌, ◌∙◌, ◌+◌, ◌*◌, ◌%◌, List, ◌∷◌, ◌++◌, [], length, length-append, map, sym, ap, subst, rules, arith}
use Rattle.std.specs.Slots.{slots_items}
use Rattle.sk_model.specs.declared.point.Point.{Point}
use Rattle.sk_weave.specs.Points.{point_at}
use Rattle.sk_clock.specs.Of.{start_of}
use Rattle.sk_clock.specs.Closes.{own_of, Closes}
use Rattle.sk_clock.proofs.Ends.{Reads, closed_shown, low_read, first_read, more_read, room_left, next_big, all_read, at_read, word_read, get_or_at}
use Rattle.sk_clock.proofs.pass.Clock.close.Goals as goal

pub overflow_mul-at : goal.overflow_mul-at
overflow_mul-at c =
    let g = c.gather-all.ensures in
    let h = closed_shown (start_of c.args.self) c.gather-all.result.id c.gather-all.result.me.0 _ _ (map own_of c.args.passes.items) g.live g.all c.requires.every c.close_with-words.ensures.values.2 in
    let l = low_read c.args.self _ _ c.word-low.result h c.word-low.ensures in
    search rules

pub unpack-requires : goal.unpack-requires
unpack-requires c =
    let g = c.gather-all.ensures in
    let h = closed_shown (start_of c.args.self) c.gather-all.result.id c.gather-all.result.me.0 _ _ (map own_of c.args.passes.items) g.live g.all c.requires.every c.close_with-words.ensures.values.2 in
    word_read c.args.self _ _ _ _ _ (first_read c.args.self _ _ c.word-low.result c.word-word.result h c.word-low.ensures c.word-word.ensures)

pub overflow_add-at-2 : goal.overflow_add-at-2
overflow_add-at-2 c =
    let g = c.gather-all.ensures in
    let h = closed_shown (start_of c.args.self) c.gather-all.result.id c.gather-all.result.me.0 _ _ (map own_of c.args.passes.items) g.live g.all c.requires.every c.close_with-words.ensures.values.2 in
    let l = low_read c.args.self _ _ c.word-low.result h c.word-low.ensures in
    search rules

pub loop-word-init : goal.loop-word-init
loop-word-init c =
    let g = c.gather-all.ensures in
    let h = closed_shown (start_of c.args.self) c.gather-all.result.id c.gather-all.result.me.0 _ _ (map own_of c.args.passes.items) g.live g.all c.requires.every c.close_with-words.ensures.values.2 in
    let r = first_read c.args.self _ _ c.word-low.result c.word-word.result h c.word-low.ensures c.word-word.ensures in
    let empty : c.in-Ok.points.items ≡ [] = c.in-Ok.ensures.items in
    let items : c.push_reserved.new.self.items ≡ point_at c.word-word.result ∷ [] = c.push_reserved.ensures.items ∙ ((λ i. empty i ++ c.unpack.ensures i ∷ [])) in
    let room = c.in-Ok.ensures.capacity in
    let cap = c.push_reserved.ensures.capacity in
    let none = c.in-Ok.ensures.len in
    let one = c.push_reserved.ensures.len in
    let count : length c.push_reserved.new.self.items ≡ 1 = ap (λ (l : List Point). length l) items in record {
      reads = subst (Reads (start_of c.args.self) (map own_of c.args.passes.items) (slots_items c.close_with-words.result.words) (c.word-low.result * c.args.self.size) c.word-word.result) (sym items) r;
      read = get_or_at (slots_items c.close_with-words.result.words) ((c.word-low.result * c.args.self.size + 1) % (c.args.self.parts * c.args.self.size) + 3) c.word-next.result c.word-next.ensures;
      room = omega arith;
      len = omega arith;
    }

pub unpack-requires-in-loop-word : goal.unpack-requires-in-loop-word
unpack-requires-in-loop-word c = let i = c.loop-word.invariant in next_big c.args.self _ _ _ _ _ _ i.reads i.read c.loop-word-test.true

pub push_reserved-requires-in-loop-word : goal.push_reserved-requires-in-loop-word
push_reserved-requires-in-loop-word c =
    let i = c.loop-word.invariant in
    let l = room_left c.args.self _ _ _ _ _ _ i.reads i.read c.loop-word-test.true in
    let room = i.room in
    let len = i.len in
    omega arith

pub overflow_add-at-in-loop-word : goal.overflow_add-at-in-loop-word
overflow_add-at-in-loop-word c = let l = at_read c.args.self _ _ _ _ _ c.loop-word.invariant.reads in search rules

pub overflow_add-at-in-loop-word-2 : goal.overflow_add-at-in-loop-word-2
overflow_add-at-in-loop-word-2 c = let l = at_read c.args.self _ _ _ _ _ c.loop-word.invariant.reads in search rules

pub loop-word-smaller : goal.loop-word-smaller
loop-word-smaller c = let l = at_read c.args.self _ _ _ _ _ c.loop-word.invariant.reads in omega arith

pub loop-word-preserved : goal.loop-word-preserved
loop-word-preserved c =
    let i = c.loop-word.invariant in
    let r = more_read c.args.self _ _ _ _ _ _ i.reads i.read c.loop-word-test.true in
    let p = c.push_reserved-in-loop-word.ensures in
    let items : c.push_reserved-in-loop-word.new.self.items ≡ c.loop-word.points.items ++ point_at c.loop-word.next ∷ [] = p.items ∙ ap (λ (q : Point). c.loop-word.points.items ++ q ∷ []) c.unpack-in-loop-word.ensures in
    let count : length c.push_reserved-in-loop-word.new.self.items ≡ length c.loop-word.points.items + 1 = ap (λ (l : List Point). length l) items ∙ length-append c.loop-word.points.items (point_at c.loop-word.next ∷ []) in
    let len = i.len in
    let room = i.room in
    let more = p.len in
    let cap = p.capacity in record {
      reads = subst (Reads (start_of c.args.self) (map own_of c.args.passes.items) (slots_items c.close_with-words.result.words) (c.loop-word.at + 1) c.loop-word.next) (sym items) r;
      read = get_or_at (slots_items c.close_with-words.result.words) ((c.loop-word.at + 1 + 1) % (c.args.self.parts * c.args.self.size) + 3) c.word-after.result c.word-after.ensures;
      room = omega arith;
      len = omega arith;
    }

pub returns-clause-closed : goal.returns-clause-closed
returns-clause-closed c = let i = c.loop-word.invariant in subst (Closes (start_of c.args.self) (map own_of c.args.passes.items)) (sym c.from_vec.ensures) (all_read c.args.self _ _ _ _ _ _ i.reads i.read c.loop-word-test.false)
