-- How the calls of a record go in one engine behind those of its statements, and when it is committed.
use Rattle.std.specs.Prelude.{ℕ, Bool, true, false, not, ◌&&◌, ◌||◌, ◌≡◌, List, [], ◌++◌, is_some, Option, Some, None}
use Rattle.std.proofs.Common.{refl, sym, ap, subst, ◌∙◌, ⊎_elim}
use Rattle.std.specs.List.{list_any}
use Rattle.std.proofs.lemmas.Bool.{false≢true}
use Rattle.std.proofs.lemmas.List.{append-nil, append_cancel_left}
use Rattle.std.proofs.lemmas.List.Concat.{flat_map-append}
use Rattle.std.proofs.lemmas.List.Folds.{list_any-append}
use Rattle.std.proofs.Math.Bool.{or-true}
use Rattle.sk_rows.specs.declared.table.Table.{Table}
use Rattle.sk_model.specs.declared.engine.EngineName.{EngineName}
use Rattle.sk_model.specs.declared.engine.EngineName.TheVariants.{Mem, Store}
use Rattle.sk_model.specs.declared.record.Record.{Record}
use Rattle.sk_model.specs.declared.record.Ending.{Ending}
use Rattle.sk_model.specs.declared.record.Ending.TheVariants as ending
use Rattle.sk_model.specs.declared.call.Entry.{Entry}
use Rattle.sk_model.specs.Records.{is_committed}
use Rattle.sk_model.specs.Talks.{OwnCall, Talk, same_engine, call_in, calls_in, wrote, opened}
use Rattle.sk_model.specs.RecordTalks.{commit_steps, steps_calls, left_by, is_check, owes, leaves_of, Talks}
use Rattle.sk_model.proofs.EngineEnds.{in_engine, EndsIn, mem_ends, store_ends}
use Rattle.sk_model.proofs.Lists.{Each, each_append}
use Rattle.sk_linked.specs.Traces.{is_stamp}
use Rattle.sk_linked.proofs.Finishing.{draws, drew_in, written, draws_where_written, check_drew, steps_where_written, all_draw, committed_end, stamped_committed, IsFinal, Finish, finish, calls_of_engine, final_steps, final_leave, engine_each, no_steps}

abbrev pub snapshot_in : EngineName → Record → Option ℕ
snapshot_in Mem r = r.mem
snapshot_in Store r = r.store

none_drawn : (o : Option ℕ) (b : Bool) → is_some o ≡ b → o ≡ None → b ≡ false
none_drawn o b e n = sym e ∙ ap is_some n

some_drawn : (o : Option ℕ) (b : Bool) (n : ℕ) → is_some o ≡ b → o ≡ Some n → b ≡ true
some_drawn o b n e s = sym e ∙ ap is_some s

-- a committed transaction owes no void
owes_none : (how : Ending) (snapshot : Option ℕ) (wrote : Bool) → wrote ≡ true → owes how snapshot wrote ≡ true → is_committed how ≡ false
owes_none ending.Committed None wrote w o = absurd (false≢true o)
owes_none ending.Committed (Some n) true w o = absurd (false≢true o)
owes_none ending.Committed (Some n) false w o = absurd (false≢true w)
owes_none ending.Open snapshot wrote w o = refl
owes_none ending.CheckFailed snapshot wrote w o = refl
owes_none ending.Spent snapshot wrote w o = refl
owes_none ending.NoMemory snapshot wrote w o = refl
owes_none ending.RolledBack snapshot wrote w o = refl
owes_none ending.Conflict snapshot wrote w o = refl
owes_none ending.Recycled snapshot wrote w o = refl
owes_none ending.Old snapshot wrote w o = refl
owes_none ending.Device snapshot wrote w o = refl

-- an engine that was not opened owes nothing
unopened_owes : (how : Ending) (snapshot : Option ℕ) (wrote : Bool) → snapshot ≡ None → owes how snapshot wrote ≡ false
unopened_owes ending.Open snapshot wrote e = refl
unopened_owes ending.Committed snapshot wrote e = ap (λ o. is_some o && not wrote) e
unopened_owes ending.CheckFailed snapshot wrote e = ap (λ o. is_some o && true) e
unopened_owes ending.Spent snapshot wrote e = ap (λ o. is_some o && true) e
unopened_owes ending.NoMemory snapshot wrote e = ap (λ o. is_some o && true) e
unopened_owes ending.RolledBack snapshot wrote e = ap (λ o. is_some o && true) e
unopened_owes ending.Conflict snapshot wrote e = ap (λ o. is_some o && true) e
unopened_owes ending.Recycled snapshot wrote e = ap (λ o. is_some o && true) e
unopened_owes ending.Old snapshot wrote e = ap (λ o. is_some o && true) e
unopened_owes ending.Device snapshot wrote e = ap (λ o. is_some o && true) e

module _ (catalog : List Table) (r : Record) (talk : Talk) (t : Talks catalog r talk) where
  abbrev pub steps_talk : Talk
  steps_talk = steps_calls r.label t.numbered t.taken

  abbrev pub leaves_talk : Talk
  leaves_talk = leaves_of r (wrote Mem t.spoken) (wrote Store t.spoken)

  abbrev mem_owed : Bool
  mem_owed = owes r.ending r.mem (wrote Mem t.spoken)

  abbrev store_owed : Bool
  store_owed = owes r.ending r.store (wrote Store t.spoken)

  wrote_in_engine : (e : EngineName) → written (wrote Mem t.spoken) (wrote Store t.spoken) e ≡ wrote e t.spoken
  wrote_in_engine Mem = refl
  wrote_in_engine Store = refl

  drawn : (e : EngineName) → is_some (drew_in e r) ≡ list_any (draws e) t.taken
  drawn Mem = t.mem_drawn
  drawn Store = t.store_drawn

  opened_at : (e : EngineName) → snapshot_in e r ≡ opened e t.spoken
  opened_at Mem = t.mem
  opened_at Store = t.store

  -- who drew wrote
  pub drew_wrote : (e : EngineName) (n : ℕ) → drew_in e r ≡ Some n → wrote e t.spoken ≡ true
  drew_wrote e n d = sym (wrote_in_engine e) ∙ draws_where_written e (wrote Mem t.spoken) (wrote Store t.spoken) t.taken t.rest t.steps (some_drawn (drew_in e r) _ n (drawn e) d)

  -- once committed, it drew where it wrote
  pub undrawn_wrote : (e : EngineName) → is_committed r.ending ≡ true → drew_in e r ≡ None → wrote e t.spoken ≡ false
  undrawn_wrote e c d = ⊎_elim
      (λ (none : t.rest ≡ []).
      let taken : commit_steps (wrote Mem t.spoken) (wrote Store t.spoken) ≡ t.taken = t.steps ∙ ap (λ ss. t.taken ++ ss) none ∙ append-nil t.taken in
      sym (wrote_in_engine e) ∙ sym (all_draw e (wrote Mem t.spoken) (wrote Store t.spoken)) ∙ ap (list_any (draws e)) taken ∙ undrawn)
      (λ (checked : list_any _ t.taken ≡ true). absurd (false≢true (sym undrawn ∙ check_drew e (wrote Mem t.spoken) (wrote Store t.spoken) t.taken t.rest t.steps checked)))
      (committed_end r.ending t.taken t.rest t.ends c)
    where
      undrawn : list_any (draws e) t.taken ≡ false
      undrawn = none_drawn (drew_in e r) _ (drawn e) d

  -- its calls in an engine: those of its statements, and what comes then
  abbrev pub behind : EngineName → List Entry
  behind e = calls_in e steps_talk ++ calls_in e leaves_talk

  pub calls_are : (e : EngineName) → calls_in e talk ≡ calls_in e t.spoken ++ behind e
  calls_are e =
      ap (calls_in e) t.talk_is ∙ flat_map-append (call_in e) t.spoken (steps_talk ++ leaves_talk)
      ∙ ap (λ js. calls_in e t.spoken ++ js) (flat_map-append (call_in e) steps_talk leaves_talk)

  -- where it wrote nothing and opened nothing, nothing comes then
  pub nothing_behind : (e : EngineName) → wrote e t.spoken ≡ false → opened e t.spoken ≡ None → behind e ≡ []
  nothing_behind e w o = ap (λ js. js ++ calls_in e leaves_talk) none ∙ left_none e o
    where
      none : calls_in e steps_talk ≡ []
      none = no_steps r.label t.numbered e t.taken (steps_where_written e (wrote Mem t.spoken) (wrote Store t.spoken) t.taken t.rest t.steps (wrote_in_engine e ∙ w))

      elsewhere : (e f : EngineName) (owed : Bool) (drew : Option ℕ) → same_engine e f ≡ false → calls_in e (left_by r.label f owed drew) ≡ []
      elsewhere e f false drew s = refl
      elsewhere e f true None s = rw s refl
      elsewhere e f true (Some n) s = rw s refl

      unowed : (e f : EngineName) (owed : Bool) (drew : Option ℕ) → owed ≡ false → calls_in e (left_by r.label f owed drew) ≡ []
      unowed e f owed drew s = ap (λ b. calls_in e (left_by r.label f b drew)) s

      left_none : (e : EngineName) → opened e t.spoken ≡ None → calls_in e leaves_talk ≡ []
      left_none Mem o = flat_map-append (call_in Mem) (left_by r.label Mem mem_owed r.drew_mem) (left_by r.label Store store_owed r.drew_store)
          ∙ ap (λ js. js ++ calls_in Mem (left_by r.label Store store_owed r.drew_store)) (unowed Mem Mem mem_owed r.drew_mem (unopened_owes r.ending r.mem (wrote Mem t.spoken) (t.mem ∙ o)))
          ∙ elsewhere Mem Store store_owed r.drew_store refl
      left_none Store o = flat_map-append (call_in Store) (left_by r.label Mem mem_owed r.drew_mem) (left_by r.label Store store_owed r.drew_store)
          ∙ ap (λ js. js ++ calls_in Store (left_by r.label Store store_owed r.drew_store)) (elsewhere Store Mem mem_owed r.drew_mem refl)
          ∙ unowed Store Store store_owed r.drew_store (unopened_owes r.ending r.store (wrote Store t.spoken) (t.store ∙ o))

  final : Each (λ (c : OwnCall). IsFinal (is_committed r.ending) c.entry.call) (steps_talk ++ leaves_talk)
  final = each_append (λ (c : OwnCall). IsFinal (is_committed r.ending) c.entry.call) steps_talk leaves_talk
      (final_steps r.label t.numbered (is_committed r.ending) t.taken (stamped_committed r.ending (wrote Mem t.spoken) (wrote Store t.spoken) t.taken t.rest t.steps t.ends))
      (each_append (λ (c : OwnCall). IsFinal (is_committed r.ending) c.entry.call) (left_by r.label Mem mem_owed r.drew_mem) (left_by r.label Store store_owed r.drew_store)
      (final_leave r.label Mem mem_owed (is_committed r.ending) r.drew_mem (λ o n d. owes_none r.ending r.mem (wrote Mem t.spoken) (drew_wrote Mem n d) o))
      (final_leave r.label Store store_owed (is_committed r.ending) r.drew_store (λ o n d. owes_none r.ending r.store (wrote Store t.spoken) (drew_wrote Store n d) o)))

  -- so it finishes in an engine
  pub finishes : (e : EngineName) → Finish r.label (drew_in e r) (is_committed r.ending) (behind e)
  finishes e = go e (ended e)
    where
      ended : (e : EngineName) → EndsIn r e (drew_in e r) t.spoken talk
      ended Mem = mem_ends catalog r talk t
      ended Store = store_ends catalog r talk t

      all_final : (e : EngineName) → Each (λ (j : Entry). IsFinal (is_committed r.ending) j.call) (behind e)
      all_final e = subst (λ js. Each (λ (j : Entry). IsFinal (is_committed r.ending) j.call) js) (flat_map-append (call_in e) steps_talk leaves_talk) (engine_each (IsFinal (is_committed r.ending)) e (steps_talk ++ leaves_talk) final)

      go : (e : EngineName) → EndsIn r e (drew_in e r) t.spoken talk → Finish r.label (drew_in e r) (is_committed r.ending) (behind e)
      go e x =
          let tail : calls_in e x.tail ≡ behind e =
          append_cancel_left (calls_in e t.spoken) (calls_in e x.tail) (behind e)
          (ap (λ js. js ++ calls_in e x.tail) (sym (calls_of_engine e t.spoken)) ∙ sym (flat_map-append (call_in e) (in_engine e t.spoken) x.tail) ∙ ap (calls_in e) (sym x.is) ∙ calls_of_engine e talk ∙ calls_are e) in
          subst (Finish r.label (drew_in e r) (is_committed r.ending)) tail (finish r.label e (drew_in e r) (is_committed r.ending) x.tail x.shape (subst (λ js. Each (λ (j : Entry). IsFinal (is_committed r.ending) j.call) js) (sym tail) (all_final e)))

  -- who is committed with one number has stamped it
  pub one_stamped : (e other : EngineName) (n : ℕ) → same_engine e other ≡ false → is_committed r.ending ≡ true → drew_in e r ≡ Some n → drew_in other r ≡ None → list_any (λ (j : Entry). is_stamp j.call) (calls_in e talk) ≡ true
  one_stamped e other n apart c d u =
      ap (list_any (λ (j : Entry). is_stamp j.call)) (calls_are e) ∙ list_any-append (λ (j : Entry). is_stamp j.call) (calls_in e t.spoken) (behind e)
      ∙ ap (λ b. list_any (λ (j : Entry). is_stamp j.call) (calls_in e t.spoken) || b)
      (list_any-append (λ (j : Entry). is_stamp j.call) (calls_in e steps_talk) (calls_in e leaves_talk) ∙ ap (λ b. b || list_any (λ (j : Entry). is_stamp j.call) (calls_in e leaves_talk)) stamps)
      ∙ or-true _
    where
      all : (e other : EngineName) (wm ws : Bool) → same_engine e other ≡ false → written wm ws e ≡ true → written wm ws other ≡ false → list_any (λ (j : Entry). is_stamp j.call) (calls_in e (steps_calls r.label t.numbered (commit_steps wm ws))) ≡ true
      all Mem Mem wm ws a w u = absurd (false≢true (sym a))
      all Store Store wm ws a w u = absurd (false≢true (sym a))
      all Mem Store true false a w u = refl
      all Mem Store true true a w u = absurd (false≢true (sym u))
      all Mem Store false ws a w u = absurd (false≢true w)
      all Store Mem false true a w u = refl
      all Store Mem true true a w u = absurd (false≢true (sym u))
      all Store Mem wm false a w u = absurd (false≢true w)

      stamps : list_any (λ (j : Entry). is_stamp j.call) (calls_in e steps_talk) ≡ true
      stamps = ⊎_elim
          (λ (none : t.rest ≡ []).
          let taken : commit_steps (wrote Mem t.spoken) (wrote Store t.spoken) ≡ t.taken = t.steps ∙ ap (λ ss. t.taken ++ ss) none ∙ append-nil t.taken in
          ap (λ ss. list_any (λ (j : Entry). is_stamp j.call) (calls_in e (steps_calls r.label t.numbered ss))) (sym taken)
          ∙ all e other (wrote Mem t.spoken) (wrote Store t.spoken) apart (wrote_in_engine e ∙ drew_wrote e n d) (wrote_in_engine other ∙ undrawn_wrote other c u))
          (λ (checked : list_any _ t.taken ≡ true).
          absurd (false≢true (sym (none_drawn (drew_in other r) _ (drawn other) u) ∙ check_drew other (wrote Mem t.spoken) (wrote Store t.spoken) t.taken t.rest t.steps checked)))
          (committed_end r.ending t.taken t.rest t.ends c)

  -- and with two by its check
  pub both_checked : (a b : ℕ) → is_committed r.ending ≡ true → r.drew_mem ≡ Some a → r.drew_store ≡ Some b → list_any is_check t.taken ≡ true
  both_checked a b c m s = ⊎_elim
      (λ (none : t.rest ≡ []).
      let taken : commit_steps (wrote Mem t.spoken) (wrote Store t.spoken) ≡ t.taken = t.steps ∙ ap (λ ss. t.taken ++ ss) none ∙ append-nil t.taken in
      ap (list_any is_check) (sym taken) ∙ all (wrote Mem t.spoken) (wrote Store t.spoken) (drew_wrote Mem a m) (drew_wrote Store b s))
      (λ (checked : list_any is_check t.taken ≡ true). checked)
      (committed_end r.ending t.taken t.rest t.ends c)
    where
      all : (wm ws : Bool) → wm ≡ true → ws ≡ true → list_any is_check (commit_steps wm ws) ≡ true
      all true true m s = refl
      all true false m s = absurd (false≢true s)
      all false ws m s = absurd (false≢true m)
