-- A transaction that waits for an answer goes on with it: what it has asked for stays what its statement asks for.
use Rattle.std.specs.Prelude.{◌≡◌, ℕ, ◌+◌, zero, suc, List, [], ◌∷◌, ◌++◌, Option, Some, None, Bool, true, false, cond, ◌||◌, drop, is_some, slice_get}
use Rattle.std.proofs.Common.{refl, sym, ap, subst, ◌∙◌, append_assoc}
use Rattle.std.proofs.Math.Numerals.{add-one}
use Rattle.std.specs.List.{AllByRecursion}
use Rattle.std.proofs.Math.Bool.{or-false, or-true}
use Rattle.sk_rows.specs.declared.table.Table.{Table}
use Rattle.sk_rows.specs.declared.value.Value.{Value}
use Rattle.sk_rows.specs.declared.statement.Statement.{Statement}
use Rattle.sk_model.specs.declared.engine.EngineName.{EngineName}
use Rattle.sk_model.specs.declared.engine.EngineName.TheVariants.{Mem, Store}
use Rattle.sk_model.specs.declared.commit.Write.{Write}
use Rattle.sk_model.specs.declared.point.Point.{Point}
use Rattle.sk_model.specs.declared.reply.Reply.{Reply}
use Rattle.sk_model.specs.declared.record.Said.{Said}
use Rattle.sk_model.specs.declared.call.EngineCall.TheVariants as call
use Rattle.sk_model.specs.declared.call.EngineReply.{EngineReply}
use Rattle.sk_model.specs.declared.call.EngineReply.TheVariants as answer
use Rattle.sk_model.specs.Database.{KeyedRows}
use Rattle.sk_model.specs.Reads.{one_row}
use Rattle.sk_model.specs.Talks.{OwnCall, Talk, own, or_else, opened, wrote}
use Rattle.sk_model.specs.Asking.{first_engine, Rest, read_call, IfRead, put_call, Asked}
use Rattle.sk_model.specs.RecordTalks.{Converses, is_last, selection_made, number_or_none}
use Rattle.sk_weave.specs.declared.answer.Selected.{Selected}
use Rattle.sk_session.specs.Kept.{listed}
use Rattle.sk_session.specs.declared.live.Live.{Live}
use Rattle.sk_session.specs.Moving.{snapshot_of, opened_at, has_written, selects, is_begin}
use Rattle.sk_session.specs.Speaks.{Knows, IsOpen, Answering}
use Rattle.sk_session.proofs.Talking.{or_else_none, opened_append, wrote_append}

-- ---- one more call

-- these rows were found
abbrev pub IsFoundBy : Option Value → EngineReply → KeyedRows → Type 0
IsFoundBy None (answer.Rows rs) rows = rows ≡ rs
IsFoundBy (Some key) (answer.Found row) rows = rows ≡ one_row key row
IsFoundBy _ _ rows = ⊥

-- what comes over the rows that were found
pub found_then : (e : EngineName) (key : Option Value) (x : EngineReply) (rows : KeyedRows) (Then : KeyedRows → Rest) (calls : Talk) (r : Reply) → IsFoundBy key x rows → Then rows calls r → IfRead e key Then x calls r
found_then e None (answer.Rows rs) rows Then calls r found then = subst (λ rs. Then rs calls r) found then
found_then e (Some key) (answer.Found row) rows Then calls r found then = subst (λ rs. Then rs calls r) found then
found_then e _ _ rows Then calls r found then = absurd found

-- the writes from one index on
pub next_write : (ws : List Write) (i : ℕ) (w : Write) → slice_get ws i ≡ Some w → drop i ws ≡ w ∷ drop (i + 1) ws
next_write [] i w is = absurd cc
next_write (x ∷ xs) zero w is = let e : x ≡ w = (cc) in ap (λ y. y ∷ xs) e
next_write (x ∷ xs) (suc i) w is = rw (add-one (suc i)) (next_write xs i w is ∙ rw (add-one i) refl)

-- one more call of an engine, with no other behind it
more : (part calls : Talk) (c : OwnCall) → (part ++ c ∷ []) ++ calls ≡ part ++ (c ∷ calls)
more part calls c = append_assoc part (c ∷ []) calls

-- a call that opens nothing and writes nothing
pub knows_more : (live : Live) (talk : Talk) (c : OwnCall) → opened Mem (c ∷ []) ≡ None → opened Store (c ∷ []) ≡ None → wrote Mem (c ∷ []) ≡ false → wrote Store (c ∷ []) ≡ false → Knows live talk → Knows live (talk ++ c ∷ [])
knows_more live talk c om os wm ws k = record {
  mem = k.mem ∙ sym (opened_append Mem talk (c ∷ []) ∙ ap (or_else (opened Mem talk)) om ∙ or_else_none (opened Mem talk));
  store = k.store ∙ sym (opened_append Store talk (c ∷ []) ∙ ap (or_else (opened Store talk)) os ∙ or_else_none (opened Store talk));
  wrote_mem = k.wrote_mem ∙ sym (wrote_append Mem talk (c ∷ []) ∙ ap (λ b. wrote Mem talk || b) wm ∙ or-false (wrote Mem talk));
  wrote_store = k.wrote_store ∙ sym (wrote_append Store talk (c ∷ []) ∙ ap (λ b. wrote Store talk || b) ws ∙ or-false (wrote Store talk));
  mem_undrawn = k.mem_undrawn;
  store_undrawn = k.store_undrawn;
  unpassed = k.unpassed;
  selection = k.selection;
  mem_first = k.mem_first;
  store_first = k.store_first;
}

-- a read was answered
pub knows_read : (live : Live) (talk : Talk) (e : EngineName) (t : ℕ) (key : Option Value) (x : EngineReply) → Knows live talk → Knows live (talk ++ own e (read_call live.label t key) x ∷ [])
knows_read live talk Mem t None x k = knows_more live talk _ refl refl refl refl k
knows_read live talk Mem t (Some key) x k = knows_more live talk _ refl refl refl refl k
knows_read live talk Store t None x k = knows_more live talk _ refl refl refl refl k
knows_read live talk Store t (Some key) x k = knows_more live talk _ refl refl refl refl k

-- a write was put
pub knows_put : (live : Live) (talk : Talk) (e : EngineName) (w : Write) → is_some (snapshot_of live e) ≡ true → Knows live talk → Knows (has_written live e) (talk ++ own e (put_call live.label w) answer.Done ∷ [])
knows_put live talk Mem w is k = record {
  mem = k.mem ∙ sym (opened_append Mem talk _ ∙ or_else_none (opened Mem talk));
  store = k.store ∙ sym (opened_append Store talk _ ∙ or_else_none (opened Store talk));
  wrote_mem = sym (wrote_append Mem talk (own Mem (put_call live.label w) answer.Done ∷ []) ∙ or-true (wrote Mem talk));
  wrote_store = k.wrote_store ∙ sym (wrote_append Store talk (own Mem (put_call live.label w) answer.Done ∷ []) ∙ or-false (wrote Store talk));
  mem_undrawn = k.mem_undrawn;
  store_undrawn = k.store_undrawn;
  unpassed = k.unpassed;
  selection = k.selection;
  mem_first = λ wrote. is;
  store_first = k.store_first;
}
knows_put live talk Store w is k = record {
  mem = k.mem ∙ sym (opened_append Mem talk _ ∙ or_else_none (opened Mem talk));
  store = k.store ∙ sym (opened_append Store talk _ ∙ or_else_none (opened Store talk));
  wrote_mem = k.wrote_mem ∙ sym (wrote_append Mem talk (own Store (put_call live.label w) answer.Done ∷ []) ∙ or-false (wrote Mem talk));
  wrote_store = sym (wrote_append Store talk (own Store (put_call live.label w) answer.Done ∷ []) ∙ or-true (wrote Store talk));
  mem_undrawn = k.mem_undrawn;
  store_undrawn = k.store_undrawn;
  unpassed = k.unpassed;
  selection = k.selection;
  mem_first = k.mem_first;
  store_first = λ wrote. is;
}

-- no selection stands where the memory engine is not open
none_selected : (n : ℕ) (mem : Option ℕ) (ps : List Point) → mem ≡ None → selection_made mem ps → selection_made (Some n) ps
none_selected n mem [] is h = tt
none_selected n mem (p ∷ ps) is h = let e : None ≡ Some p.a = sym is ∙ h.2 in absurd cc

-- an engine was opened
pub knows_open : (live : Live) (talk : Talk) (e : EngineName) (n : ℕ) → snapshot_of live e ≡ None → Knows live talk → Knows (opened_at live e n) (talk ++ own e (call.Open live.label n) answer.Done ∷ [])
knows_open live talk Mem n none k = record {
  mem = sym (opened_append Mem talk (own Mem (call.Open live.label n) answer.Done ∷ []) ∙ ap (λ o. or_else o (Some n)) (sym k.mem ∙ none));
  store = k.store ∙ sym (opened_append Store talk (own Mem (call.Open live.label n) answer.Done ∷ []) ∙ or_else_none (opened Store talk));
  wrote_mem = k.wrote_mem ∙ sym (wrote_append Mem talk (own Mem (call.Open live.label n) answer.Done ∷ []) ∙ or-false (wrote Mem talk));
  wrote_store = k.wrote_store ∙ sym (wrote_append Store talk (own Mem (call.Open live.label n) answer.Done ∷ []) ∙ or-false (wrote Store talk));
  mem_undrawn = k.mem_undrawn;
  store_undrawn = k.store_undrawn;
  unpassed = k.unpassed;
  selection = none_selected n live.mem (listed live.selected) none k.selection;
  mem_first = λ wrote. refl;
  store_first = k.store_first;
}
knows_open live talk Store n none k = record {
  mem = k.mem ∙ sym (opened_append Mem talk (own Store (call.Open live.label n) answer.Done ∷ []) ∙ or_else_none (opened Mem talk));
  store = sym (opened_append Store talk (own Store (call.Open live.label n) answer.Done ∷ []) ∙ ap (λ o. or_else o (Some n)) (sym k.store ∙ none));
  wrote_mem = k.wrote_mem ∙ sym (wrote_append Mem talk (own Store (call.Open live.label n) answer.Done ∷ []) ∙ or-false (wrote Mem talk));
  wrote_store = k.wrote_store ∙ sym (wrote_append Store talk (own Store (call.Open live.label n) answer.Done ∷ []) ∙ or-false (wrote Store talk));
  mem_undrawn = k.mem_undrawn;
  store_undrawn = k.store_undrawn;
  unpassed = k.unpassed;
  selection = k.selection;
  mem_first = k.mem_first;
  store_first = λ wrote. refl;
}

-- ---- the statement goes on

-- the same transaction, but for its snapshots, its points, and what it has written
pub record Alike (live new : Live) : Type 0 where
  pub label : new.label ≡ live.label
  pub kind : new.kind ≡ live.kind
  pub small : new.small ≡ live.small
  pub said : new.said ≡ live.said
  pub statement : new.statement ≡ live.statement

pub same : (live : Live) → Alike live live
same live = record { label = refl; kind = refl; small = refl; said = refl; statement = refl }

pub alike_written : (live : Live) (e : EngineName) → Alike live (has_written live e)
alike_written live Mem = record { label = refl; kind = refl; small = refl; said = refl; statement = refl }
alike_written live Store = record { label = refl; kind = refl; small = refl; said = refl; statement = refl }

pub alike_opened : (live : Live) (e : EngineName) (n : ℕ) → Alike live (opened_at live e n)
alike_opened live Mem n = record { label = refl; kind = refl; small = refl; said = refl; statement = refl }
alike_opened live Store n = record { label = refl; kind = refl; small = refl; said = refl; statement = refl }

pub opened_now : (live : Live) (e : EngineName) (n : ℕ) → IsOpen (opened_at live e n) e
opened_now live Mem n = refl
opened_now live Store n = refl

-- what is open stays so as another engine is opened
pub open_still : (live : Live) (e x : EngineName) (n : ℕ) → IsOpen live x → IsOpen (opened_at live e n) x
open_still live Mem Mem n is = refl
open_still live Mem Store n is = is
open_still live Store Mem n is = is
open_still live Store Store n is = refl

-- and as something is written
pub still_open : (live : Live) (e x : EngineName) → IsOpen live x → IsOpen (has_written live e) x
still_open live Mem Mem is = is
still_open live Mem Store is = is
still_open live Store Mem is = is
still_open live Store Store is = is

-- the first engine is open still
first_still : (live new : Live) (now : Statement) → Alike live new → ((x : EngineName) → IsOpen live x → IsOpen new x) → (live.small ≡ false → is_begin (Some now) ≡ false → IsOpen live (first_engine live.kind))
    → new.small ≡ false → is_begin (Some now) ≡ false → IsOpen new (first_engine new.kind)
first_still live new now a still first small plain = subst (λ k. IsOpen new (first_engine k)) (sym a.kind) (still (first_engine live.kind) (first (sym a.small ∙ small) plain))

-- One more call was made: what remained behind it remains now.
pub goes_further : (catalog : List Table) (live new : Live) (now : Statement) (R Next : Rest) (talk : Talk) (c : OwnCall) → Answering catalog live now R talk → Alike live new → ((x : EngineName) → IsOpen live x → IsOpen new x) → Knows new (talk ++ c ∷ [])
    → ((calls : Talk) (r : Reply) → Next calls r → R (c ∷ calls) r) → Answering catalog new now Next (talk ++ c ∷ [])
goes_further catalog live new now R Next talk c w a still knows remains = record {
  knows = knows;
  before = w.before;
  part = w.part ++ c ∷ [];
  talk_is = ap (λ t. t ++ c ∷ []) w.talk_is ∙ append_assoc w.before w.part (c ∷ []);
  statement_is = a.statement ∙ w.statement_is;
  goes_on = w.goes_on;
  said = subst (λ l. Converses catalog l new.kind [] new.said w.before) (sym a.label) (subst (λ k. Converses catalog live.label k [] new.said w.before) (sym a.kind) (subst (λ ss. Converses catalog live.label live.kind [] ss w.before) (sym a.said) w.said));
  going = subst (AllByRecursion (λ (s : Said). is_last s ≡ false)) (sym a.said) w.going;
  alone = λ small. a.said ∙ w.alone (sym a.small ∙ small);
  first = first_still live new now a still w.first;
  whole = λ calls r h.
      subst (λ l. Asked catalog l new.kind w.before now ((w.part ++ c ∷ []) ++ calls) r) (sym a.label)
      (subst (λ k. Asked catalog live.label k w.before now ((w.part ++ c ∷ []) ++ calls) r) (sym a.kind)
      (subst (λ t. Asked catalog live.label live.kind w.before now t r) (sym (more w.part calls c)) (w.whole (c ∷ calls) r (remains calls r h))));
}

-- No call was made: what remains now remained before.
pub goes_on_so : (catalog : List Table) (live : Live) (now : Statement) (R Next : Rest) (talk : Talk) → Answering catalog live now R talk → ((calls : Talk) (r : Reply) → Next calls r → R calls r) → Answering catalog live now Next talk
goes_on_so catalog live now R Next talk w remains = record {
  knows = w.knows;
  before = w.before;
  part = w.part;
  talk_is = w.talk_is;
  statement_is = w.statement_is;
  goes_on = w.goes_on;
  said = w.said;
  going = w.going;
  alone = w.alone;
  first = w.first;
  whole = λ calls r h. w.whole calls r (remains calls r h);
}

pub has_anchor : (mem : Option ℕ) → is_some mem ≡ true → mem ≡ Some (number_or_none mem)
has_anchor None e = absurd cc
has_anchor (Some n) e = refl

-- a snapshot was selected, and its point is noted where one was made
pub selected : (catalog : List Table) (live : Live) (now : Statement) (R : Rest) (talk : Talk) (s : Selected) → is_some live.mem ≡ true → Answering catalog live now R talk → Answering catalog (selects live s) now R talk
selected catalog live now R talk s anchor w = by s.made
  where
    point : Point
    point = record { a = number_or_none live.mem; b = s.b; commit = false }

    by : (made : Bool) → Answering catalog (cond made (record live { selected = Some point }) live) now R talk
    by true = record {
      knows = record {
        mem = w.knows.mem;
        store = w.knows.store;
        wrote_mem = w.knows.wrote_mem;
        wrote_store = w.knows.wrote_store;
        mem_undrawn = w.knows.mem_undrawn;
        store_undrawn = w.knows.store_undrawn;
        unpassed = w.knows.unpassed;
        selection = (refl, refl, has_anchor live.mem anchor);
        mem_first = w.knows.mem_first;
        store_first = w.knows.store_first;
      };
      before = w.before;
      part = w.part;
      talk_is = w.talk_is;
      statement_is = w.statement_is;
      goes_on = w.goes_on;
      said = w.said;
      going = w.going;
      alone = w.alone;
      first = w.first;
      whole = w.whole;
    }
    by false = w
