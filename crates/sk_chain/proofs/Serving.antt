-- An engine with a journal promises what its engine promises.
use Rattle.std.specs.Prelude.{◌≡◌, ℕ, ◌+◌, ◌-◌, ◌≤◌, ◌<◌, List, [], ◌∷◌, ◌++◌, Option, Some, None, Result, Ok, Err, Bool, true, false, cond, not, ◌&&◌, ◌⊎◌, length, nat_lt, is_some}
use Rattle.std.proofs.Common.{refl, sym, ap, subst, ◌∙◌, arith, ⊎_elim}
use Rattle.std.specs.Result.{is_err}
use Rattle.std.proofs.lemmas.Bool.{cond_both, cond-true, lt-ltb, eq-eqb, and_from, false≢true}
use Rattle.std.proofs.lemmas.List.{length_push}
use Rattle.sk_outside.specs.Causes.{Rose}
use Rattle.sk_model.specs.declared.label.Label.{Label}
use Rattle.sk_model.specs.declared.call.EngineCall.{EngineCall}
use Rattle.sk_model.specs.declared.call.EngineCall.TheVariants as call
use Rattle.sk_model.specs.declared.call.EngineFault.{EngineFault}
use Rattle.sk_model.specs.declared.call.EngineFault.TheVariants as fault
use Rattle.sk_model.specs.declared.call.EngineReply.{EngineReply}
use Rattle.sk_model.specs.declared.call.EngineReply.TheVariants.{Done, Found, Rows, Number, Commits, Fault}
use Rattle.sk_model.specs.declared.call.Entry.{Entry}
use Rattle.sk_model.specs.Engine.{EngineTable, opening_of}
use Rattle.sk_model.specs.EngineReplies.{last_in, horizon_of}
use Rattle.sk_model.specs.EngineChanges.{change, without_opening}
use Rattle.sk_model.specs.EngineConditions.{may}
use Rattle.sk_model.specs.Legal.{step, due, touches, is_refusal}
use Rattle.sk_model.specs.Resembling.{Resembles}
use Rattle.sk_model.specs.Journal.{Written, most_entries, goes_behind, takes_horizon, with_horizon, horizon_entry, is_horizon}
use Rattle.sk_model.proofs.Quiet.{step_keeps}
use Rattle.sk_model.proofs.Runs.{last_append}
use Rattle.sk_model.proofs.Openings.{InOrder, more_opened, one_ended, refused_stays}
use Rattle.sk_chain.specs.Promise.{entry_of, refused, replied, Replies, Leaves, Serves}
use Rattle.sk_chain.specs.Noting.{Notes, noted}
use Rattle.sk_chain.proofs.Entering.{Rooms, with_room, leaves}

-- a call that keeps the number of openings needs no more room
pub rooms_kept : (before : ℕ) (c : EngineCall) (reply : Option EngineReply) (room : ℕ) → ((e : EngineTable) → InOrder e.openings → length (change e c).openings ≤ length e.openings) → before ≤ room → Rooms before c reply room
rooms_kept before c None room f le e m h k = omega arith
rooms_kept before c (Some r) room f le e m h k =
    let g : length (change e c).openings ≤ length e.openings = f e h in
    step_keeps (λ (x : EngineTable). length x.openings ≤ room) e (entry_of c r) (omega arith) (λ _ _. omega arith)

pub rooms_opened : (before : ℕ) (tx : Label) (s : ℕ) (reply : Option EngineReply) (room : ℕ) → before + 1 ≤ room → Rooms before (call.Open tx s) reply room
rooms_opened before tx s None room le e m h k = omega arith
rooms_opened before tx s (Some r) room le e m h k =
    let g : length (change e (call.Open tx s)).openings ≤ length e.openings + 1 = more_opened e tx s h in
    step_keeps (λ (x : EngineTable). length x.openings ≤ room) e (entry_of (call.Open tx s) r) (omega arith) (λ _ _. omega arith)

stays_for : (before : ℕ) (c : EngineCall) (f : EngineFault) (room : ℕ) (e : EngineTable) → before ≤ room → length e.openings ≤ before → length (step e (entry_of c (Fault f))).openings ≤ room
stays_for before c f room e le k = subst (λ (x : EngineTable). length x.openings ≤ room) (sym (refused_stays e (entry_of c (Fault f)) refl)) (omega arith)

rooms_refused : (before : ℕ) (c : EngineCall) (f : EngineFault) (room : ℕ) → before ≤ room → Rooms before c (refused f) room
rooms_refused before c (fault.Old s n) room le e m h k = stays_for before c (fault.Old s n) room e le k
rooms_refused before c (fault.Busy by) room le e m h k = stays_for before c (fault.Busy by) room e le k
rooms_refused before c (fault.Conflict by why) room le e m h k = stays_for before c (fault.Conflict by why) room e le k
rooms_refused before c fault.Device room le e m h k = stays_for before c fault.Device room e le k
rooms_refused before c fault.NoMemory room le e m h k = omega arith

-- nor does one that failed
pub rooms_failed : {X : Type 0} (before : ℕ) (c : EngineCall) (as_reply : X → EngineReply) (r : Result X EngineFault) (room : ℕ) → is_err r ≡ true → before ≤ room → Rooms before c (replied as_reply r) room
rooms_failed before c as_reply (Ok x) room t le = absurd (false≢true t)
rooms_failed before c as_reply (Err f) room t le = rooms_refused before c f room le

-- the end of an opening frees what was taken for it
pub rooms_ended : (before : ℕ) (c : EngineCall) (tx : Label) → ((e : EngineTable) → may e c ≡ true → is_some (opening_of e tx) ≡ true) → ((e : EngineTable) → (change e c).openings ≡ without_opening tx e.openings) → Rooms before c (Some Done) (before - 1)
rooms_ended before c tx there f e m h k =
    let one : length (without_opening tx e.openings) + 1 ≡ length e.openings = one_ended tx e.openings (there e m) h in
    let now : length (step e (entry_of c Done)).openings ≡ length (without_opening tx e.openings) = ap (λ b. length (cond (b && true) (change e c) e).openings) m ∙ ap length (f e) in
    omega arith

noted_as : (w v : Written) (c : EngineCall) (reply : Option EngineReply) (room : ℕ) → w.entries ≡ v.entries → with_room room (noted w c reply) ≡ with_room room (noted v c reply)
noted_as w v c None room e = ap (λ xs. record { entries = xs; room = room }) e
noted_as w v c (Some r) room e = ap (λ xs. with_room room (noted (record { entries = xs; room = room }) c (Some r))) e

pub noted_room : (w : Written) (c : EngineCall) (reply : Option EngineReply) → (noted w c reply).room ≡ w.room - 1
noted_room w c None = refl
noted_room w c (Some r) = refl

noted_itself : (w : Written) (c : EngineCall) (reply : Option EngineReply) → noted w c reply ≡ with_room (w.room - 1) (noted w c reply)
noted_itself w c None = refl
noted_itself w c (Some r) = refl

step_same : (e : EngineTable) (c : EngineCall) (r : EngineReply) → change e c ≡ e → step e (entry_of c r) ≡ e
step_same e c r s = cond_both (may e c && not (is_refusal r)) (change e c) e (λ x. x ≡ e) (λ t. s) (λ f. refl)

number_of : EngineReply → ℕ
number_of Done = 0
number_of (Found r) = 0
number_of (Rows rs) = 0
number_of (Number n) = n
number_of (Commits cs) = 0
number_of (Fault f) = 0

is_number : (told : Bool) (before now : ℕ) (e : EngineTable) (n : ℕ) → Replies told before now e call.Horizon (Number n) → horizon_of e ≡ n
unfolding number_of
is_number told before now e n r = ⊎_elim
    (λ (d : (touches call.Horizon ≡ true) × (Number n ≡ Fault fault.Device) × Rose before now). absurd (false≢true d.0))
    (λ (k : (due e call.Horizon ≡ Number n) ⊎ ((told ≡ false) × Resembles e.catalog call.Horizon (due e call.Horizon) (Number n))). ⊎_elim (λ d. ap number_of d) (λ (l : (told ≡ false) × Resembles e.catalog call.Horizon (due e call.Horizon) (Number n)). absurd l.1) k)
    r

horizon_entered : (js ks : List Entry) (n : ℕ) → (length js ≤ most_entries → ks ≡ js) → (length ks < most_entries → goes_behind n (last_in None ks) ≡ true) → length (js ++ horizon_entry n ∷ []) ≤ most_entries → with_horizon ks n ≡ js ++ horizon_entry n ∷ []
horizon_entered js ks n same goes le =
    let more : length (js ++ horizon_entry n ∷ []) ≡ length js + 1 = length_push js (horizon_entry n) in
    let e : ks ≡ js = same (omega arith) in
    let few : length js < most_entries = omega arith in
    let short : length ks < most_entries = subst (λ xs. length xs < most_entries) (sym e) few in
    cond-true (takes_horizon ks n) (ks ++ horizon_entry n ∷ []) ks (and_from (nat_lt (length ks) most_entries) (goes_behind n (last_in None ks)) (lt-ltb (length ks) most_entries short) (goes short))
    ∙ ap (λ xs. xs ++ horizon_entry n ∷ []) e

goes_on : (ks : List Entry) (n : ℕ) → (length ks < most_entries → goes_behind n (last_in None ks) ≡ true) → length (with_horizon ks n) < most_entries → goes_behind n (last_in None (with_horizon ks n)) ≡ true
goes_on ks n goes = cond_both (takes_horizon ks n) (ks ++ horizon_entry n ∷ []) ks (λ xs. length xs < most_entries → goes_behind n (last_in None xs) ≡ true)
    (λ t l. ap (goes_behind n) (last_append None ks (horizon_entry n ∷ [])) ∙ eq-eqb n n refl)
    (λ f l. goes l)

module _ {G S : Type 0} (told : Bool) (faults : G → ℕ) (stands : G → EngineTable → List Entry → Type 0) (engine : S → G) (journal : S → Written) where
  abbrev pub Within : S → S → EngineCall → Option EngineReply → Type 0
  Within old new c reply = Serves told (λ (s : S). faults (engine s)) (λ (s : S) (e : EngineTable) (js : List Entry). Notes (stands (engine s)) (journal s) e js) old new c reply

  -- a call that was noted
  pub serves : (old new : S) (w : Written) (c : EngineCall) (reply same : Option EngineReply) (room : ℕ) → is_horizon c ≡ false → w.entries ≡ (journal old).entries → Rooms (journal old).room c reply room
      → same ≡ reply → journal new ≡ with_room room (noted w c same) → Serves told faults stands (engine old) (engine new) c reply → Within old new c reply
  serves old new w c reply same room o entries rooms s now g =
      let is : journal new ≡ with_room room (noted (journal old) c reply) = now ∙ noted_as w (journal old) c same room entries ∙ ap (λ r. with_room room (noted (journal old) c r)) s in
      record {
        later = g.later;
        holds = λ e js k m. subst (λ (v : Written). Leaves told (faults (engine old)) (faults (engine new)) (Notes (stands (engine new)) v) e js c reply) (sym is)
            (leaves (stands (engine old)) (stands (engine new)) told (faults (engine old)) (faults (engine new)) (journal old) room c reply o rooms g.holds e js k m);
      }

  behind_it : (new : G) (told2 : Bool) (before now : ℕ) (e : EngineTable) (js : List Entry) (c : EngineCall) (reply : Option EngineReply) → change e c ≡ e → Leaves told2 before now (stands new) e js c reply → (js2 : List Entry) × stands new e js2
  behind_it new told2 before now e js c None s l = (js, l)
  behind_it new told2 before now e js c (Some r) s l = (js ++ entry_of c r ∷ [], subst (λ x. stands new x (js ++ entry_of c r ∷ [])) (step_same e c r s) l.1)

  -- a call that changes nothing and was not noted, since memory was wanted
  pub unnoted : (old new : S) (c : EngineCall) (reply : Option EngineReply) → ((e : EngineTable) → change e c ≡ e) → (journal new).entries ≡ (journal old).entries → (journal old).room ≤ (journal new).room
      → Serves told faults stands (engine old) (engine new) c reply → Within old new c None
  unnoted old new c reply same entries room g = record {
    later = g.later;
    holds = λ e js k m.
        let b : (js2 : List Entry) × stands (engine new) e js2 = behind_it (engine new) told (faults (engine old)) (faults (engine new)) e k.behind c reply (same e) (g.holds e k.behind k.engine m) in
        record {
          behind = b.0;
          engine = b.1;
          entries = λ le. entries ∙ k.entries le;
          room = let r : length e.openings ≤ (journal old).room = k.room in omega arith;
          sorted = k.sorted;
          goes = subst (λ xs. length xs < most_entries → goes_behind (horizon_of e) (last_in None xs) ≡ true) (sym entries) k.goes;
        };
  }

  -- a Horizon
  pub serves_horizon : (old new : S) (n : ℕ) → journal new ≡ record { entries = with_horizon (journal old).entries n; room = (journal old).room }
      → Serves told faults stands (engine old) (engine new) call.Horizon (Some (Number n)) → Within old new call.Horizon (Some (Number n))
  serves_horizon old new n now g = record {
    later = g.later;
    holds = λ e js k m.
        let l : Leaves told (faults (engine old)) (faults (engine new)) (stands (engine new)) e k.behind call.Horizon (Some (Number n)) = g.holds e k.behind k.engine m in
        let is : horizon_of e ≡ n = is_number told (faults (engine old)) (faults (engine new)) e n l.0 in
        let goes : length (journal old).entries < most_entries → goes_behind n (last_in None (journal old).entries) ≡ true = subst (λ h. length (journal old).entries < most_entries → goes_behind h (last_in None (journal old).entries) ≡ true) is k.goes in (
          l.0,
          subst (λ (v : Written). Notes (stands (engine new)) v e (js ++ horizon_entry n ∷ [])) (sym now) record {
            behind = k.behind ++ horizon_entry n ∷ [];
            engine = l.1;
            entries = λ le. horizon_entered js (journal old).entries n k.entries goes le;
            room = k.room;
            sorted = k.sorted;
            goes = subst (λ h. length (with_horizon (journal old).entries n) < most_entries → goes_behind h (last_in None (with_horizon (journal old).entries n)) ≡ true) (sym is) (goes_on (journal old).entries n goes);
          },
        );
  }

  abbrev pub taken : S → ℕ → Written
  taken old n = record { entries = (journal old).entries; room = (journal old).room + n }

  -- a call with room for its own entry
  pub serves_noted : (old new : S) (w : Written) (c : EngineCall) (reply same : Option EngineReply) → is_horizon c ≡ false → w ≡ taken old 1
      → ((e : EngineTable) → InOrder e.openings → length (change e c).openings ≤ length e.openings)
      → same ≡ reply → journal new ≡ noted w c same → Serves told faults stands (engine old) (engine new) c reply → Within old new c reply
  serves_noted old new w c reply same o t keeps s now g =
      let r : w.room ≡ (journal old).room + 1 = ap (λ (v : Written). v.room) t in
      serves old new w c reply same (w.room - 1) o (ap (λ (v : Written). v.entries) t) (rooms_kept (journal old).room c reply (w.room - 1) keeps (omega arith)) s (now ∙ noted_itself w c same) g

  -- a call whose room was given back
  pub given_back : (old new : S) (w : Written) (c : EngineCall) (reply : Option EngineReply) → w ≡ taken old 1 → ((e : EngineTable) → change e c ≡ e)
      → journal new ≡ record { entries = w.entries; room = w.room - 1 } → Serves told faults stands (engine old) (engine new) c reply → Within old new c None
  given_back old new w c reply t same now g =
      let r : w.room ≡ (journal old).room + 1 = ap (λ (v : Written). v.room) t in
      let k : (journal new).room ≡ w.room - 1 = ap (λ (v : Written). v.room) now in
      unnoted old new c reply same (ap (λ (v : Written). v.entries) now ∙ ap (λ (v : Written). v.entries) t) (omega arith) g

  -- an opening, with room for its end
  pub serves_opened : (old new : S) (w : Written) (tx : Label) (s : ℕ) (reply same : Option EngineReply) → w ≡ taken old 2
      → same ≡ reply → journal new ≡ noted w (call.Open tx s) same → Serves told faults stands (engine old) (engine new) (call.Open tx s) reply → Within old new (call.Open tx s) reply
  serves_opened old new w tx s reply same t e now g =
      let r : w.room ≡ (journal old).room + 2 = ap (λ (v : Written). v.room) t in
      serves old new w (call.Open tx s) reply same (w.room - 1) refl (ap (λ (v : Written). v.entries) t) (rooms_opened (journal old).room tx s reply (w.room - 1) (omega arith)) e (now ∙ noted_itself w (call.Open tx s) same) g

  -- an opening that was refused gives the room of its end back
  pub serves_refused : {X : Type 0} (old new : S) (w noted_too : Written) (tx : Label) (s : ℕ) (as_reply : X → EngineReply) (r : Result X EngineFault) (same : Option EngineReply) → is_err r ≡ true → w ≡ taken old 2
      → same ≡ replied as_reply r → noted_too ≡ noted w (call.Open tx s) same → journal new ≡ record { entries = noted_too.entries; room = noted_too.room - 1 }
      → Serves told faults stands (engine old) (engine new) (call.Open tx s) (replied as_reply r) → Within old new (call.Open tx s) (replied as_reply r)
  serves_refused old new w noted_too tx s as_reply r same failed t e was now g =
      let k : w.room ≡ (journal old).room + 2 = ap (λ (v : Written). v.room) t in
      let l : noted_too.room ≡ w.room - 1 = ap (λ (v : Written). v.room) was ∙ noted_room w (call.Open tx s) same in
      serves old new w (call.Open tx s) (replied as_reply r) same (noted_too.room - 1) refl (ap (λ (v : Written). v.entries) t)
      (rooms_failed (journal old).room (call.Open tx s) as_reply r (noted_too.room - 1) failed (omega arith)) e
      (now ∙ ap (λ (v : Written). record { entries = v.entries; room = noted_too.room - 1 }) was) g

  -- an end, in the room that was taken for it
  pub serves_ended : (old new : S) (c : EngineCall) (tx : Label) → is_horizon c ≡ false → ((e : EngineTable) → may e c ≡ true → is_some (opening_of e tx) ≡ true) → ((e : EngineTable) → (change e c).openings ≡ without_opening tx e.openings)
      → journal new ≡ noted (journal old) c (Some Done) → Serves told faults stands (engine old) (engine new) c (Some Done) → Within old new c (Some Done)
  serves_ended old new c tx o there ends now g = serves old new (journal old) c (Some Done) (Some Done) ((journal old).room - 1) o refl (rooms_ended (journal old).room c tx there ends) refl now g
