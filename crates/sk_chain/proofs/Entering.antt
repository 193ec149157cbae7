-- What a call leaves of an engine with a journal.
use Rattle.std.specs.Prelude.{◌≡◌, ℕ, ◌+◌, ◌≤◌, ◌<◌, List, [], ◌∷◌, ◌++◌, Option, Some, None, Bool, true, false, not, ◌||◌, length, nat_lt}
use Rattle.std.proofs.Common.{sym, ap, ◌∙◌, arith}
use Rattle.std.proofs.lemmas.Bool.{cond_both, cond-true, lt-ltb, false≢true}
use Rattle.std.proofs.lemmas.List.{length_push}
use Rattle.sk_model.specs.declared.call.EngineCall.{EngineCall}
use Rattle.sk_model.specs.declared.call.EngineReply.{EngineReply}
use Rattle.sk_model.specs.declared.call.Entry.{Entry}
use Rattle.sk_model.specs.Engine.{EngineTable}
use Rattle.sk_model.specs.EngineReplies.{last_in}
use Rattle.sk_model.specs.EngineConditions.{may}
use Rattle.sk_model.specs.Legal.{step}
use Rattle.sk_model.specs.Journal.{Written, entered, most_entries, goes_behind, is_horizon, answers}
use Rattle.sk_model.proofs.Runs.{last_append}
use Rattle.sk_model.proofs.Openings.{InOrder, order_step}
use Rattle.sk_chain.specs.Promise.{entry_of, Leaves}
use Rattle.sk_chain.specs.Noting.{Notes, noted}

-- an entry that a journal can have is entered
pub entered_is : (js ks : List Entry) (j : Entry) → (length js ≤ most_entries → ks ≡ js) → length (js ++ j ∷ []) ≤ most_entries → entered ks j ≡ js ++ j ∷ []
entered_is js ks j same le =
    let n : length (js ++ j ∷ []) ≡ length js + 1 = length_push js j in
    let e : ks ≡ js = same (omega arith) in
    ap (λ xs. entered xs j) e ∙ cond-true (nat_lt (length js) most_entries) (js ++ j ∷ []) js (lt-ltb (length js) most_entries (omega arith))

-- behind what is no Horizon each Horizon may stand
pub goes_entered : (h : ℕ) (ks : List Entry) (j : Entry) → is_horizon j.call ≡ false → length (entered ks j) < most_entries → goes_behind h (last_in None (entered ks j)) ≡ true
goes_entered h ks j o = cond_both (nat_lt (length ks) most_entries) (ks ++ j ∷ []) ks (λ xs. length xs < most_entries → goes_behind h (last_in None xs) ≡ true)
    (λ t l. ap (goes_behind h) (last_append None ks (j ∷ [])) ∙ ap (λ b. not b || answers h j.reply) o)
    (λ f l. absurd (false≢true (sym f ∙ lt-ltb (length ks) most_entries l)))

-- how much room a call needs behind it, where it was entered or not
abbrev pub RoomFor : EngineTable → EngineCall → Option EngineReply → ℕ → Type 0
RoomFor e call None room = length e.openings ≤ room
RoomFor e call (Some reply) room = length (step e (entry_of call reply)).openings ≤ room

-- what is left of the room for a call is right for what it leaves
abbrev pub Rooms : ℕ → EngineCall → Option EngineReply → ℕ → Type 0
Rooms before call reply room = (e : EngineTable) → may e call ≡ true → InOrder e.openings → length e.openings ≤ before → RoomFor e call reply room

abbrev pub with_room : ℕ → Written → Written
with_room room w = record { entries = w.entries; room = room }

module _ (old new : EngineTable → List Entry → Type 0) where
  -- an engine with a journal leaves what its engine leaves
  pub leaves : (told : Bool) (before now : ℕ) (w : Written) (room : ℕ) (call : EngineCall) (reply : Option EngineReply) → is_horizon call ≡ false → Rooms w.room call reply room
      → ((e : EngineTable) (js : List Entry) → old e js → may e call ≡ true → Leaves told before now new e js call reply)
      → (e : EngineTable) (js : List Entry) → Notes old w e js → may e call ≡ true → Leaves told before now (Notes new (with_room room (noted w call reply))) e js call reply
  leaves told before now w room call None o rooms g e js k m =
      record { behind = k.behind; engine = g e k.behind k.engine m; entries = k.entries; room = rooms e m k.sorted k.room; sorted = k.sorted; goes = k.goes }
  leaves told before now w room call (Some reply) o rooms g e js k m =
      let left : Leaves told before now new e k.behind call (Some reply) = g e k.behind k.engine m in (
        left.0,
        record {
          behind = k.behind ++ entry_of call reply ∷ [];
          engine = left.1;
          entries = λ le. entered_is js w.entries (entry_of call reply) k.entries le;
          room = rooms e m k.sorted k.room;
          sorted = order_step e (entry_of call reply) k.sorted;
          goes = goes_entered _ w.entries (entry_of call reply) o;
        },
      )

-- the engine below allows what the engine with a journal allows
pub meets : {stands : EngineTable → List Entry → Type 0} (w : Written) (call : EngineCall) → ((e : EngineTable) × (js : List Entry) × Notes stands w e js × (may e call ≡ true))
    → ((e : EngineTable) × (js : List Entry) × stands e js × (may e call ≡ true))
meets w call p = (p.0, p.2.behind, p.2.engine, p.3)
