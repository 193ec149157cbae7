-- What is common to the sessions of a run only grows, call by call and line by line.
use Rattle.std.specs.Prelude.{◌≡◌, ℕ, ◌+◌, ◌==◌, nat_lt, List, [], ◌∷◌, ◌++◌, Result, Ok, Err, Bool, true, false, cond}
use Rattle.std.proofs.Common.{refl, sym, ap, subst, ◌∙◌, arith}
use Rattle.std.proofs.lemmas.List.{append_assoc, append-nil}
use Rattle.sk_rows.specs.declared.table.Table.{Table}
use Rattle.sk_model.specs.declared.point.Point.{Point}
use Rattle.sk_model.specs.Numbers.{greatest_number}
use Rattle.sk_model.specs.declared.point.Recycled.{Recycled}
use Rattle.sk_model.specs.Talks.{own, call_in, calls_in}
use Rattle.sk_weave.specs.declared.answer.Selected.{Selected}
use Rattle.sk_weave.specs.declared.answer.DrawFault.TheVariants.{Spent, Early}
use Rattle.sk_weave.specs.declared.event.Event.TheVariants.{DrawMem, DrawStore, Append, Raise}
use Rattle.sk_weave.specs.Points.{selection, commit_point}
use Rattle.sk_weave.specs.Registry.{Regs, Grows as RegsGrow, is_full, after_all, append_steps, selected, selection_steps, drawn, draw_steps, after_draw_mem, after_draw_store, passes, makes_cut}
use Rattle.sk_commit.specs.declared.asking.RegistryCall.{RegistryCall}
use Rattle.sk_commit.specs.declared.asking.RegistryCall.TheVariants as reg
use Rattle.sk_commit.specs.declared.asking.RegistryReply.{RegistryReply}
use Rattle.sk_commit.specs.declared.asking.RegistryReply.TheVariants as told
use Rattle.sk_commit.specs.declared.asking.Wish.{Wish}
use Rattle.sk_commit.specs.declared.asking.Wish.TheVariants as wish
use Rattle.sk_commit.specs.declared.asking.Got.{Got}
use Rattle.sk_commit.specs.declared.asking.Got.TheVariants as given
use Rattle.sk_commit.specs.Fits.{own_call}
use Rattle.sk_session.specs.declared.turn.Turn.{Turn}
use Rattle.sk_session.specs.declared.turn.Turn.TheVariants as turn
use Rattle.sk_session.specs.declared.session.Session.{Session}
use Rattle.sk_session.specs.Conversing.{Exchange, Exchanges}
use Rattle.sk_session.specs.Common.{Common, RegAnswers, RegsAnswer, Answered}
use Rattle.sk_kept.specs.Sessions.{AnswersRight}
use Rattle.sk_recorded.specs.Growing.{Grows, GrowsOn, AnsweredGrows, FlushCallsGrow, CutsGrow, StandsGrown, AnswersGrow, LinesGrow, LeavesGrow}

-- ---- the registry

goes_on_same : (r : Regs) → RegsGrow r r
goes_on_same r = record { mem = omega arith; store = omega arith; low = omega arith; more = []; points = sym (append-nil r.points); partitions = refl; size = refl }

pub regs_grow_on : (r s u : Regs) → RegsGrow r s → RegsGrow s u → RegsGrow r u
regs_grow_on r s u g k = record {
  mem = omega (arith, g.mem, k.mem);
  store = omega (arith, g.store, k.store);
  low = omega (arith, g.low, k.low);
  more = g.more ++ k.more;
  points = k.points ∙ ap (λ us. us ++ k.more) g.points ∙ append_assoc r.points g.more k.more;
  partitions = k.partitions ∙ g.partitions;
  size = k.size ∙ g.size;
}

longer_none : (r s : Regs) → s ≡ r → RegsGrow r s
longer_none r s e = subst (RegsGrow r) (sym e) (goes_on_same r)

-- a point was appended, perhaps behind a partition that was given up
appended_grows : (r : Regs) (q : Point) → RegsGrow r (after_all r (append_steps r q))
appended_grows r q = by (is_full r)
  where
    by : (b : Bool) → RegsGrow r (after_all r (cond b (Raise (r.low + 1) ∷ Append q ∷ []) (Append q ∷ [])))
    by true = record { mem = omega arith; store = omega arith; low = omega arith; more = q ∷ []; points = refl; partitions = refl; size = refl }
    by false = record { mem = omega arith; store = omega arith; low = omega arith; more = q ∷ []; points = refl; partitions = refl; size = refl }

longer_if : (r : Regs) (q : Point) (b : Bool) → RegsGrow r (after_all r (cond b (append_steps r q) []))
longer_if r q true = appended_grows r q
longer_if r q false = goes_on_same r

longer_selected : (r : Regs) (a : ℕ) (o : Result Selected Recycled) → RegsGrow r (after_all r (selection_steps r a o))
longer_selected r a (Ok s) = longer_if r (selection a s.b) s.made
longer_selected r a (Err e) = goes_on_same r

-- a draw raises its counter by one, or is refused
longer_mem : (r : Regs) (floor : ℕ) → RegsGrow r (after_draw_mem r floor)
longer_mem r floor = by (r.mem == greatest_number) (nat_lt r.mem floor)
  where
    by : (spent early : Bool) → RegsGrow r (after_all r (draw_steps DrawMem (cond spent (Err Spent) (cond early (Err (Early floor r.mem)) (Ok (r.mem + 1))))))
    by true early = goes_on_same r
    by false true = goes_on_same r
    by false false = record { mem = omega arith; store = omega arith; low = omega arith; more = []; points = sym (append-nil r.points); partitions = refl; size = refl }

longer_store : (r : Regs) (floor : ℕ) → RegsGrow r (after_draw_store r floor)
longer_store r floor = by (r.store == greatest_number) (nat_lt r.store floor)
  where
    by : (spent early : Bool) → RegsGrow r (after_all r (draw_steps DrawStore (cond spent (Err Spent) (cond early (Err (Early floor r.store)) (Ok (r.store + 1))))))
    by true early = goes_on_same r
    by false true = goes_on_same r
    by false false = record { mem = omega arith; store = omega arith; low = omega arith; more = []; points = sym (append-nil r.points); partitions = refl; size = refl }

longer_reg : (r s : Regs) (asked : RegistryCall) (reply : RegistryReply) → RegAnswers r asked reply s → RegsGrow r s
longer_reg r s reg.Begin (told.Number n) h = longer_none r s h.1
longer_reg r s reg.Begin (told.Selected found) h = absurd h
longer_reg r s reg.Begin (told.Recycled e) h = absurd h
longer_reg r s reg.Begin (told.NotDrawn d) h = absurd h
longer_reg r s reg.Begin told.Done h = absurd h
longer_reg r s reg.Begin (told.Passed p) h = absurd h
longer_reg r s reg.Begin told.NoMemory h = absurd h
longer_reg r s reg.StoreNow (told.Number n) h = longer_none r s h.1
longer_reg r s reg.StoreNow (told.Selected found) h = absurd h
longer_reg r s reg.StoreNow (told.Recycled e) h = absurd h
longer_reg r s reg.StoreNow (told.NotDrawn d) h = absurd h
longer_reg r s reg.StoreNow told.Done h = absurd h
longer_reg r s reg.StoreNow (told.Passed p) h = absurd h
longer_reg r s reg.StoreNow told.NoMemory h = absurd h
longer_reg r s (reg.Select a) (told.Number n) h = absurd h
longer_reg r s (reg.Select a) (told.Selected found) h = subst (RegsGrow r) (sym h.2) (longer_selected r a (selected r a r.store))
longer_reg r s (reg.Select a) (told.Recycled e) h = longer_none r s h.1
longer_reg r s (reg.Select a) (told.NotDrawn d) h = absurd h
longer_reg r s (reg.Select a) told.Done h = absurd h
longer_reg r s (reg.Select a) (told.Passed p) h = absurd h
longer_reg r s (reg.Select a) told.NoMemory h = longer_none r s h
longer_reg r s (reg.DrawMem floor) (told.Number n) h = subst (RegsGrow r) (sym h.1) (longer_mem r floor)
longer_reg r s (reg.DrawMem floor) (told.Selected found) h = absurd h
longer_reg r s (reg.DrawMem floor) (told.Recycled e) h = absurd h
longer_reg r s (reg.DrawMem floor) (told.NotDrawn d) h = longer_none r s h.1
longer_reg r s (reg.DrawMem floor) told.Done h = absurd h
longer_reg r s (reg.DrawMem floor) (told.Passed p) h = absurd h
longer_reg r s (reg.DrawMem floor) told.NoMemory h = absurd h
longer_reg r s (reg.DrawStore floor) (told.Number n) h = subst (RegsGrow r) (sym h.1) (longer_store r floor)
longer_reg r s (reg.DrawStore floor) (told.Selected found) h = absurd h
longer_reg r s (reg.DrawStore floor) (told.Recycled e) h = absurd h
longer_reg r s (reg.DrawStore floor) (told.NotDrawn d) h = longer_none r s h.1
longer_reg r s (reg.DrawStore floor) told.Done h = absurd h
longer_reg r s (reg.DrawStore floor) (told.Passed p) h = absurd h
longer_reg r s (reg.DrawStore floor) told.NoMemory h = absurd h
longer_reg r s (reg.Check ca cb) (told.Number n) h = absurd h
longer_reg r s (reg.Check ca cb) (told.Selected found) h = absurd h
longer_reg r s (reg.Check ca cb) (told.Recycled e) h = absurd h
longer_reg r s (reg.Check ca cb) (told.NotDrawn d) h = absurd h
longer_reg r s (reg.Check ca cb) told.Done h = subst (RegsGrow r) (sym h.3) (longer_if r (commit_point ca cb) (passes r ca cb))
longer_reg r s (reg.Check ca cb) (told.Passed p) h = longer_none r s h.1
longer_reg r s (reg.Check ca cb) told.NoMemory h = absurd h

longer : (r s : Regs) (asked : Wish) (got : Got) → RegsAnswer r asked got s → RegsGrow r s
longer r s (wish.Mem asked) (given.Engine reply) h = longer_none r s h
longer r s (wish.Mem asked) (given.Reg reply) h = longer_none r s h
longer r s (wish.Store asked) (given.Engine reply) h = longer_none r s h
longer r s (wish.Store asked) (given.Reg reply) h = longer_none r s h
longer r s (wish.Reg asked) (given.Engine reply) h = longer_none r s h
longer r s (wish.Reg asked) (given.Reg reply) h = longer_reg r s asked reply h

-- ---- what is common

pub grows_none : (c : Common) → Grows c c
grows_none c = record {
  first = refl;
  journals = λ name. ([], sym (append-nil (c.journals name)));
  regs = goes_on_same c.regs;
}

pub grows_more : (c d e : Common) → Grows c d → Grows d e → Grows c e
grows_more c d e g k = record {
  first = k.first ∙ g.first;
  journals = λ name. ((g.journals name).0 ++ (k.journals name).0, twice (c.journals name) (d.journals name) (e.journals name) (g.journals name) (k.journals name));
  regs = regs_grow_on c.regs d.regs e.regs g.regs k.regs;
}
  where
    twice : {X : Type 0} (xs ys zs : List X) (g : (more : List X) × (ys ≡ xs ++ more)) (k : (more : List X) × (zs ≡ ys ++ more)) → zs ≡ xs ++ (g.0 ++ k.0)
    twice xs ys zs g k = k.1 ∙ ap (λ us. us ++ k.0) g.1 ∙ append_assoc xs g.0 k.0

pub grows_on : GrowsOn
grows_on = (grows_none, grows_more)

-- ---- by a call

pub answered_grows : AnsweredGrows
answered_grows c d asked got a = record {
  first = a.first;
  journals = λ name. (calls_in name (own_call asked got), a.journals name);
  regs = longer c.regs d.regs asked got a.regs;
}

pub flush_calls_grow : FlushCallsGrow
flush_calls_grow c d name asked reply a = record {
  first = a.first;
  journals = λ other. (call_in other (own name asked reply), a.journals other);
  regs = longer_none c.regs d.regs a.regs;
}

pub cuts_grow : CutsGrow
cuts_grow c d x y k = record {
  first = k.first;
  journals = λ name. ([], k.journals name ∙ sym (append-nil (c.journals name)));
  regs = subst (RegsGrow c.regs) (sym k.regs) (longer_if c.regs (selection x y) (makes_cut c.regs x y c.regs.store));
}

-- ---- by a line

pub answers_grow : {D : Type 0} (answers : D → Wish → Got → D → Type 0) (stands : D → Common → Type 0) → AnswersGrow answers stands
answers_grow {D = D} answers stands right c old asked got new a d (stood, grown) =
    let k : (e : Common) × Answered d asked got e × stands new e = right old asked got new a d stood in
    (k.0, k.1, (k.2, grows_more c d k.0 grown (answered_grows d k.0 asked got k.1)))

module _ {D : Type 0} (answers : D → Wish → Got → D → Type 0) (stands : D → Common → Type 0) (right : AnswersRight answers stands) (catalog : List Table) where
  -- behind a session's calls the desk stands for something
  exchanges_stand : (made : List Exchange) (s : Session) (t : Turn) (d : D) (end : Session) (last : Turn) (desk : D) → Exchanges answers catalog s t d made end last desk → (c : Common) → stands d c → (e : Common) × stands desk e
  exchanges_stand [] s t d end last desk x c stood = (c, subst (λ y. stands y c) (sym x.2) stood)
  exchanges_stand (e ∷ made) s t d end last desk x c stood =
      let k : (a : Common) × Answered c e.wish e.got a × stands x.5 a = right d e.wish e.got x.5 x.6 c stood in
      exchanges_stand made x.3 x.4 x.5 end last desk x.8 k.0 k.2

-- and that has grown
grown_behind : {D : Type 0} (answers : D → Wish → Got → D → Type 0) (stands : D → Common → Type 0) → AnswersRight answers stands → (catalog : List Table) (made : List Exchange) (s : Session) (t : Turn) (d : D) (end : Session) (last : Turn) (desk : D)
    → Exchanges answers catalog s t d made end last desk → (c : Common) → stands d c → (e : Common) × stands desk e × Grows c e
grown_behind {D = D} answers stands right catalog made s t d end last desk x c stood =
    let k : (e : Common) × StandsGrown stands c desk e = exchanges_stand answers (StandsGrown stands c) (answers_grow answers stands right c) catalog made s t d end last desk x c (stood, grows_none c) in
    (k.0, k.1.0, k.1.1)

pub lines_grow : {D : Type 0} (answers : D → Wish → Got → D → Type 0) (stands : D → Common → Type 0) → LinesGrow answers stands
lines_grow {D = D} answers stands right catalog old desk s new desk_then said c stood x =
    grown_behind answers stands right catalog x.replied.made x.first x.asked desk new (turn.Said said) desk_then x.replied.goes c stood

pub leaves_grow : {D : Type 0} (answers : D → Wish → Got → D → Type 0) (stands : D → Common → Type 0) → LeavesGrow answers stands
leaves_grow {D = D} answers stands right catalog old desk new desk_then said c stood x =
    grown_behind answers stands right catalog x.replied.made x.first x.asked desk new (turn.Said said) desk_then x.replied.goes c stood
