-- How the calls of a record go in one engine: behind those of its statements come at most a close and one end.
use Rattle.std.specs.Prelude.{◌≡◌, ℕ, ◌<◌, List, [], ◌∷◌, ◌++◌, Option, Some, None, Bool, true, false, ◌||◌, ◌⊎◌, IfSome, is_some, map}
use Rattle.std.proofs.Common.{refl, sym, ap, subst, ◌∙◌, inl, inr, append-nil}
use Rattle.std.specs.List.{filter, list_any, AllByRecursion}
use Rattle.std.proofs.lemmas.List.Elements.{filter-append}
use Rattle.sk_rows.specs.declared.table.Table.{Table}
use Rattle.sk_model.specs.declared.label.Label.{Label}
use Rattle.sk_model.specs.declared.engine.EngineName.{EngineName}
use Rattle.sk_model.specs.declared.engine.EngineName.TheVariants.{Mem, Store}
use Rattle.sk_model.specs.declared.step.StepName.{StepName}
use Rattle.sk_model.specs.declared.call.EngineCall.TheVariants as call
use Rattle.sk_model.specs.declared.call.EngineReply.TheVariants.{Done, Number}
use Rattle.sk_model.specs.declared.record.Record.{Record}
use Rattle.sk_model.specs.declared.record.Ending.{Ending}
use Rattle.sk_model.specs.declared.record.Ending.TheVariants as ending
use Rattle.sk_model.specs.Talks.{OwnCall, Talk, own, same_engine, wrote}
use Rattle.sk_model.specs.RecordTalks.{Numbered, number_or_none, commit_steps, steps_calls, is_draw_mem, is_draw_store, is_check, begins_with, EndsAt, left_by, owes, Talks}
use Rattle.sk_model.specs.Shapes.{EngineEnd, StillOpen, Dropped, Closed, ClosedDropped, StampedAt, VoidedAt}

-- the calls of one engine, in order
abbrev pub in_engine : EngineName → Talk → Talk
in_engine e talk = filter (λ (c : OwnCall). same_engine e c.engine) talk

-- all fronts of a list
abbrev fronts : {X : Type 0} → List X → List (List X)
fronts [] = [] ∷ []
fronts (x ∷ xs) = [] ∷ map (λ ys. x ∷ ys) (fronts xs)

each_of_map : {X : Type 0} (P : List X → Type 0) (x : X) (yss : List (List X)) → AllByRecursion P (map (λ ys. x ∷ ys) yss) → AllByRecursion (λ ys. P (x ∷ ys)) yss
each_of_map P x [] h = tt
each_of_map P x (ys ∷ yss) h = (h.0, each_of_map P x yss h.1)

-- what holds of each front holds of this one
at_front : {X : Type 0} (P : List X → Type 0) (xs ys zs : List X) → AllByRecursion P (fronts xs) → xs ≡ ys ++ zs → P ys
at_front P [] [] zs h e = h.0
at_front P [] (y ∷ ys) zs h e = absurd cc
at_front P (x ∷ xs) [] zs h e = h.0
at_front P (x ∷ xs) (y ∷ ys) zs h e =
    let same : x ≡ y = (cc) in
    let rest : xs ≡ ys ++ zs = (cc) in
    subst (λ z. P (z ∷ ys)) same (at_front (λ us. P (x ∷ us)) xs ys zs (each_of_map P x (fronts xs) h.1) rest)

-- how far the steps have come in an engine
data StepsGone (tx : Label) (e : EngineName) (floor : ℕ) (number : Option ℕ) (drawn : Bool) (calls : Talk) : Type 0 where
  Before : drawn ≡ false → calls ≡ [] → StepsGone tx e floor number drawn calls
  AtClose : calls ≡ own e (call.Close tx) (Number floor) ∷ [] → StepsGone tx e floor number drawn calls
  AtStamp : drawn ≡ true → calls ≡ own e (call.Close tx) (Number floor) ∷ own e (call.Stamp tx (number_or_none number)) Done ∷ [] → StepsGone tx e floor number drawn calls

module _ (tx : Label) (n : Numbered) where
  abbrev MemStepsGone : List StepName → Type 0
  MemStepsGone ss = StepsGone tx Mem n.floor_mem n.mem (list_any is_draw_mem ss) (in_engine Mem (steps_calls tx n ss))

  abbrev StoreStepsGone : List StepName → Type 0
  StoreStepsGone ss = StepsGone tx Store n.floor_store n.store (list_any is_draw_store ss) (in_engine Store (steps_calls tx n ss))

  mem_fronts : (wm ws : Bool) → AllByRecursion MemStepsGone (fronts (commit_steps wm ws))
  mem_fronts true true = (Before refl refl, (AtClose refl, (AtClose refl, (AtClose refl, (AtClose refl, (AtClose refl, (AtStamp refl refl, (AtStamp refl refl, tt))))))))
  mem_fronts true false = (Before refl refl, (AtClose refl, (AtClose refl, (AtStamp refl refl, tt))))
  mem_fronts false true = (Before refl refl, (Before refl refl, (Before refl refl, (Before refl refl, tt))))
  mem_fronts false false = (Before refl refl, tt)

  store_fronts : (wm ws : Bool) → AllByRecursion StoreStepsGone (fronts (commit_steps wm ws))
  store_fronts true true = (Before refl refl, (Before refl refl, (AtClose refl, (AtClose refl, (AtClose refl, (AtClose refl, (AtClose refl, (AtStamp refl refl, tt))))))))
  store_fronts true false = (Before refl refl, (Before refl refl, (Before refl refl, (Before refl refl, tt))))
  store_fronts false true = (Before refl refl, (AtClose refl, (AtClose refl, (AtStamp refl refl, tt))))
  store_fronts false false = (Before refl refl, tt)

-- what is left behind these calls, where the transaction is over or not: whether it is owed, and what was drawn
after_reached : (tx : Label) (e : EngineName) (floor : ℕ) (number : Option ℕ) (drawn owed : Bool) (calls : Talk) → StepsGone tx e floor number drawn calls → is_some number ≡ drawn → IfSome number (λ n. floor < n)
    → (owed ≡ true → (number ≡ None) ⊎ (calls ≡ own e (call.Close tx) (Number floor) ∷ [])) → EngineEnd tx e number (calls ++ left_by tx e owed number)
after_reached tx e floor None drawn false calls (Before d is) has past fits = StillOpen refl (ap (λ t. t ++ []) is)
after_reached tx e floor None drawn true calls (Before d is) has past fits = Dropped refl (ap (λ t. t ++ own e (call.DropTx tx) Done ∷ []) is)
after_reached tx e floor (Some n) drawn owed calls (Before d is) has past fits = let bad : true ≡ false = has ∙ d in absurd cc
after_reached tx e floor None drawn false calls (AtClose is) has past fits = Closed floor tt (ap (λ t. t ++ []) is)
after_reached tx e floor None drawn true calls (AtClose is) has past fits = ClosedDropped floor refl (ap (λ t. t ++ own e (call.DropTx tx) Done ∷ []) is)
after_reached tx e floor (Some n) drawn false calls (AtClose is) has past fits = Closed floor past (ap (λ t. t ++ []) is)
after_reached tx e floor (Some n) drawn true calls (AtClose is) has past fits = VoidedAt floor n refl past (ap (λ t. t ++ own e (call.Void tx n) Done ∷ []) is)
after_reached tx e floor None drawn owed calls (AtStamp d is) has past fits = let bad : false ≡ true = has ∙ d in absurd cc
after_reached tx e floor (Some n) drawn false calls (AtStamp d is) has past fits = StampedAt floor n refl past (ap (λ t. t ++ []) is)
after_reached tx e floor (Some n) drawn true calls (AtStamp d is) has past fits = two (fits refl)
  where
    two : (Some n ≡ None) ⊎ (calls ≡ own e (call.Close tx) (Number floor) ∷ []) → EngineEnd tx e (Some n) (calls ++ left_by tx e true (Some n))
    two (inl bad) = absurd cc
    two (inr short) = let bad : own e (call.Close tx) (Number floor) ∷ own e (call.Stamp tx n) Done ∷ [] ≡ own e (call.Close tx) (Number floor) ∷ [] = sym is ∙ short in absurd cc

-- all ways to cut a list in two
abbrev cuts : {X : Type 0} → List X → List (List X × List X)
cuts [] = ([], []) ∷ []
cuts {X} (x ∷ xs) = ([], x ∷ xs) ∷ map (λ (c : List X × List X). (x ∷ c.0, c.1)) (cuts xs)

each_of_cuts : {X : Type 0} (P : List X → List X → Type 0) (x : X) (cs : List (List X × List X)) → AllByRecursion (λ (c : List X × List X). P c.0 c.1) (map (λ (c : List X × List X). (x ∷ c.0, c.1)) cs) → AllByRecursion (λ (c : List X × List X). P (x ∷ c.0) c.1) cs
each_of_cuts P x [] h = tt
each_of_cuts P x (c ∷ cs) h = (h.0, each_of_cuts P x cs h.1)

-- what holds of each cut holds of this one
at_cut : {X : Type 0} (P : List X → List X → Type 0) (xs ys zs : List X) → AllByRecursion (λ (c : List X × List X). P c.0 c.1) (cuts xs) → xs ≡ ys ++ zs → P ys zs
at_cut P [] [] zs h e = subst (P []) e h.0
at_cut P [] (y ∷ ys) zs h e = absurd cc
at_cut P (x ∷ xs) [] zs h e = subst (P []) e h.0
at_cut P (x ∷ xs) (y ∷ ys) zs h e =
    let same : x ≡ y = (cc) in
    let rest : xs ≡ ys ++ zs = (cc) in
    subst (λ z. P (z ∷ ys) zs) same (at_cut (λ us. P (x ∷ us)) xs ys zs (each_of_cuts P x (cuts xs) h.1) rest)

-- a step that may be refused once the closes are done
abbrev may_stop : StepName → Bool
may_stop s = is_check s || (is_draw_mem s || is_draw_store s)

module _ (tx : Label) (n : Numbered) where
  -- where such a step comes next, an engine drew nothing, or has come to its close
  abbrev MemStops : List StepName → List StepName → Type 0
  MemStops ss rest = begins_with may_stop rest ≡ true → (list_any is_draw_mem ss ≡ false) ⊎ (in_engine Mem (steps_calls tx n ss) ≡ own Mem (call.Close tx) (Number n.floor_mem) ∷ [])

  abbrev StoreStops : List StepName → List StepName → Type 0
  StoreStops ss rest = begins_with may_stop rest ≡ true → (list_any is_draw_store ss ≡ false) ⊎ (in_engine Store (steps_calls tx n ss) ≡ own Store (call.Close tx) (Number n.floor_store) ∷ [])

  mem_cuts : (wm ws : Bool) → AllByRecursion (λ (c : List StepName × List StepName). MemStops c.0 c.1) (cuts (commit_steps wm ws))
  mem_cuts true true = ((λ e. inl refl), ((λ e. inl refl), ((λ e. inl refl), ((λ e. inr refl), ((λ e. inr refl), ((λ e. inr refl), ((λ e. absurd cc), ((λ e. absurd cc), tt))))))))
  mem_cuts true false = ((λ e. inl refl), ((λ e. inl refl), ((λ e. inr refl), ((λ e. absurd cc), tt))))
  mem_cuts false true = ((λ e. inl refl), ((λ e. inl refl), ((λ e. inl refl), ((λ e. inl refl), tt))))
  mem_cuts false false = ((λ e. inl refl), tt)

  store_cuts : (wm ws : Bool) → AllByRecursion (λ (c : List StepName × List StepName). StoreStops c.0 c.1) (cuts (commit_steps wm ws))
  store_cuts true true = ((λ e. inl refl), ((λ e. inl refl), ((λ e. inl refl), ((λ e. inl refl), ((λ e. inr refl), ((λ e. inr refl), ((λ e. inr refl), ((λ e. absurd cc), tt))))))))
  store_cuts true false = ((λ e. inl refl), ((λ e. inl refl), ((λ e. inl refl), ((λ e. inl refl), tt))))
  store_cuts false true = ((λ e. inl refl), ((λ e. inl refl), ((λ e. inr refl), ((λ e. absurd cc), tt))))
  store_cuts false false = ((λ e. inl refl), tt)

-- an engine that was not written draws no number
no_mem_draw : (ws : Bool) (taken rest : List StepName) → commit_steps false ws ≡ taken ++ rest → list_any is_draw_mem taken ≡ false
no_mem_draw true taken rest e = at_front (λ ss. list_any is_draw_mem ss ≡ false) (commit_steps false true) taken rest (refl, (refl, (refl, (refl, tt)))) e
no_mem_draw false taken rest e = at_front (λ ss. list_any is_draw_mem ss ≡ false) (commit_steps false false) taken rest (refl, tt) e

no_store_draw : (wm : Bool) (taken rest : List StepName) → commit_steps wm false ≡ taken ++ rest → list_any is_draw_store taken ≡ false
no_store_draw true taken rest e = at_front (λ ss. list_any is_draw_store ss ≡ false) (commit_steps true false) taken rest (refl, (refl, (refl, (refl, tt)))) e
no_store_draw false taken rest e = at_front (λ ss. list_any is_draw_store ss ≡ false) (commit_steps false false) taken rest (refl, tt) e

begins_weaker : (p q : StepName → Bool) (ss : List StepName) → ((s : StepName) → p s ≡ true → q s ≡ true) → begins_with p ss ≡ true → begins_with q ss ≡ true
begins_weaker p q [] f e = absurd cc
begins_weaker p q (s ∷ ss) f e = f s e

-- Where a transaction that is over owes the end of an opening, it drew no number there, or its commit was stopped behind the close.
stopped : (how : Ending) (snapshot : Option ℕ) (written : Bool) (drawn closed_only : Type 0) (taken rest : List StepName) (draws : List StepName → Bool)
    → EndsAt how taken rest → owes how snapshot written ≡ true → (begins_with may_stop rest ≡ true → drawn ⊎ closed_only) → (written ≡ false → drawn) → ((list_any is_draw_mem taken || list_any is_draw_store taken) ≡ false → drawn) → (taken ≡ [] → drawn) → drawn ⊎ closed_only
stopped ending.Open snapshot written d c taken rest draws ends owed stops none undrawn nothing = absurd cc
stopped ending.Committed None written d c taken rest draws ends owed stops none undrawn nothing = absurd cc
stopped ending.Committed (Some n) true d c taken rest draws ends owed stops none undrawn nothing = absurd cc
stopped ending.Committed (Some n) false d c taken rest draws ends owed stops none undrawn nothing = inl (none refl)
stopped ending.CheckFailed snapshot written d c taken rest draws ends owed stops none undrawn nothing = stops (begins_weaker is_check may_stop rest (λ s e. rw e refl) ends)
stopped ending.Spent snapshot written d c taken rest draws ends owed stops none undrawn nothing = stops (begins_weaker (λ s. is_draw_mem s || is_draw_store s) may_stop rest (λ s e. by_or (is_check s) e) ends)
  where
    by_or : (b : Bool) {x : Bool} → x ≡ true → (b || x) ≡ true
    by_or true e = refl
    by_or false e = e
stopped ending.NoMemory snapshot written d c taken rest draws ends owed stops none undrawn nothing = inl (undrawn ends)
stopped ending.RolledBack snapshot written d c taken rest draws ends owed stops none undrawn nothing = inl (nothing ends)
stopped ending.Conflict snapshot written d c taken rest draws ends owed stops none undrawn nothing = inl (nothing ends)
stopped ending.Recycled snapshot written d c taken rest draws ends owed stops none undrawn nothing = inl (nothing ends)
stopped ending.Old snapshot written d c taken rest draws ends owed stops none undrawn nothing = inl (nothing ends)
stopped ending.Device snapshot written d c taken rest draws ends owed stops none undrawn nothing = inl (nothing ends)

undrawn_is : (drew : Option ℕ) → is_some drew ≡ false → drew ≡ None
undrawn_is None e = refl
undrawn_is (Some n) e = absurd cc

either_side : {A B C : Type 0} → (A → C) → A ⊎ B → C ⊎ B
either_side f (inl a) = inl (f a)
either_side f (inr b) = inr b

first_false : (x y : Bool) → (x || y) ≡ false → x ≡ false
first_false false y e = refl
first_false true y e = absurd cc

second_false : (x y : Bool) → (x || y) ≡ false → y ≡ false
second_false false y e = e
second_false true y e = absurd cc

left_mem_only : (tx : Label) (owed : Bool) (drew : Option ℕ) → in_engine Mem (left_by tx Mem owed drew) ≡ left_by tx Mem owed drew
left_mem_only tx false drew = refl
left_mem_only tx true None = refl
left_mem_only tx true (Some n) = refl

left_store_none : (tx : Label) (owed : Bool) (drew : Option ℕ) → in_engine Mem (left_by tx Store owed drew) ≡ []
left_store_none tx false drew = refl
left_store_none tx true None = refl
left_store_none tx true (Some n) = refl

left_mem_none : (tx : Label) (owed : Bool) (drew : Option ℕ) → in_engine Store (left_by tx Mem owed drew) ≡ []
left_mem_none tx false drew = refl
left_mem_none tx true None = refl
left_mem_none tx true (Some n) = refl

left_store_only : (tx : Label) (owed : Bool) (drew : Option ℕ) → in_engine Store (left_by tx Store owed drew) ≡ left_by tx Store owed drew
left_store_only tx false drew = refl
left_store_only tx true None = refl
left_store_only tx true (Some n) = refl

-- behind the calls of its statements, these end a record's calls in an engine
pub record EndsIn (r : Record) (e : EngineName) (drew : Option ℕ) (spoken talk : Talk) : Type 0 where
  pub tail : Talk
  pub is : in_engine e talk ≡ in_engine e spoken ++ tail
  pub shape : EngineEnd r.label e drew tail

engine_parts : (e : EngineName) (spoken steps mem store talk : Talk) → talk ≡ spoken ++ (steps ++ (mem ++ store)) → in_engine e talk ≡ in_engine e spoken ++ (in_engine e steps ++ (in_engine e mem ++ in_engine e store))
engine_parts e spoken steps mem store talk is =
    ap (in_engine e) is
    ∙ filter-append (λ (c : OwnCall). same_engine e c.engine) spoken (steps ++ (mem ++ store))
    ∙ ap (λ t. in_engine e spoken ++ t) (filter-append (λ (c : OwnCall). same_engine e c.engine) steps (mem ++ store) ∙ ap (λ t. in_engine e steps ++ t) (filter-append (λ (c : OwnCall). same_engine e c.engine) mem store))

module _ (catalog : List Table) (r : Record) (talk : Talk) (t : Talks catalog r talk) where
  abbrev mem_owed : Bool
  mem_owed = owes r.ending r.mem (wrote Mem t.spoken)

  abbrev store_owed : Bool
  store_owed = owes r.ending r.store (wrote Store t.spoken)

  abbrev mem_calls : Talk
  mem_calls = in_engine Mem (steps_calls r.label t.numbered t.taken)

  abbrev store_calls : Talk
  store_calls = in_engine Store (steps_calls r.label t.numbered t.taken)

  parts_in : (e : EngineName) → in_engine e talk ≡ in_engine e t.spoken ++ (in_engine e (steps_calls r.label t.numbered t.taken) ++ (in_engine e (left_by r.label Mem mem_owed r.drew_mem) ++ in_engine e (left_by r.label Store store_owed r.drew_store)))
  parts_in e = engine_parts e t.spoken (steps_calls r.label t.numbered t.taken) (left_by r.label Mem mem_owed r.drew_mem) (left_by r.label Store store_owed r.drew_store) talk t.talk_is

  -- how the record's calls end in the memory engine
  pub mem_ends : EndsIn r Mem r.drew_mem t.spoken talk
  mem_ends = record {
    tail = mem_calls ++ left_by r.label Mem mem_owed r.drew_mem;
    is =
        parts_in Mem
        ∙ ap (λ x. in_engine Mem t.spoken ++ (mem_calls ++ (x ++ in_engine Mem (left_by r.label Store store_owed r.drew_store)))) (left_mem_only r.label mem_owed r.drew_mem)
        ∙ ap (λ x. in_engine Mem t.spoken ++ (mem_calls ++ (left_by r.label Mem mem_owed r.drew_mem ++ x))) (left_store_none r.label store_owed r.drew_store)
        ∙ ap (λ x. in_engine Mem t.spoken ++ (mem_calls ++ x)) (append-nil (left_by r.label Mem mem_owed r.drew_mem));
    shape =
        after_reached r.label Mem t.numbered.floor_mem r.drew_mem (list_any is_draw_mem t.taken) mem_owed mem_calls
        (subst (λ d. StepsGone r.label Mem t.numbered.floor_mem d (list_any is_draw_mem t.taken) mem_calls) (sym t.drew_mem) (at_front (MemStepsGone r.label t.numbered) (commit_steps (wrote Mem t.spoken) (wrote Store t.spoken)) t.taken t.rest (mem_fronts r.label t.numbered (wrote Mem t.spoken) (wrote Store t.spoken)) t.steps))
        t.mem_drawn t.past_mem
        (λ owed. either_side (λ d. undrawn_is r.drew_mem (t.mem_drawn ∙ d)) (stopped r.ending r.mem (wrote Mem t.spoken) (list_any is_draw_mem t.taken ≡ false) _ t.taken t.rest (list_any is_draw_mem) t.ends owed
        (at_cut (MemStops r.label t.numbered) (commit_steps (wrote Mem t.spoken) (wrote Store t.spoken)) t.taken t.rest (mem_cuts r.label t.numbered (wrote Mem t.spoken) (wrote Store t.spoken)) t.steps)
        (λ none. no_mem_draw (wrote Store t.spoken) t.taken t.rest (ap (λ w. commit_steps w (wrote Store t.spoken)) (sym none) ∙ t.steps))
        (first_false (list_any is_draw_mem t.taken) (list_any is_draw_store t.taken))
        (ap (list_any is_draw_mem))));
  }

  -- and in the storage engine
  pub store_ends : EndsIn r Store r.drew_store t.spoken talk
  store_ends = record {
    tail = store_calls ++ left_by r.label Store store_owed r.drew_store;
    is =
        parts_in Store
        ∙ ap (λ x. in_engine Store t.spoken ++ (store_calls ++ (x ++ in_engine Store (left_by r.label Store store_owed r.drew_store)))) (left_mem_none r.label mem_owed r.drew_mem)
        ∙ ap (λ x. in_engine Store t.spoken ++ (store_calls ++ x)) (left_store_only r.label store_owed r.drew_store);
    shape =
        after_reached r.label Store t.numbered.floor_store r.drew_store (list_any is_draw_store t.taken) store_owed store_calls
        (subst (λ d. StepsGone r.label Store t.numbered.floor_store d (list_any is_draw_store t.taken) store_calls) (sym t.drew_store) (at_front (StoreStepsGone r.label t.numbered) (commit_steps (wrote Mem t.spoken) (wrote Store t.spoken)) t.taken t.rest (store_fronts r.label t.numbered (wrote Mem t.spoken) (wrote Store t.spoken)) t.steps))
        t.store_drawn t.past_store
        (λ owed. either_side (λ d. undrawn_is r.drew_store (t.store_drawn ∙ d)) (stopped r.ending r.store (wrote Store t.spoken) (list_any is_draw_store t.taken ≡ false) _ t.taken t.rest (list_any is_draw_store) t.ends owed
        (at_cut (StoreStops r.label t.numbered) (commit_steps (wrote Mem t.spoken) (wrote Store t.spoken)) t.taken t.rest (store_cuts r.label t.numbered (wrote Mem t.spoken) (wrote Store t.spoken)) t.steps)
        (λ none. no_store_draw (wrote Mem t.spoken) t.taken t.rest (ap (commit_steps (wrote Mem t.spoken)) (sym none) ∙ t.steps))
        (second_false (list_any is_draw_mem t.taken) (list_any is_draw_store t.taken))
        (ap (list_any is_draw_store))));
  }
