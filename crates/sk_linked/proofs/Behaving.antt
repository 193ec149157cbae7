-- Of calls in their turn: none opens again behind a close or an end, none ends before the close, and what is still owed.
use Rattle.std.specs.Prelude.{ℕ, List, [], ◌∷◌, ◌++◌, Some, Bool, true, false, not, ◌&&◌, ◌≡◌}
use Rattle.std.proofs.Common.{refl, sym, ap, subst, ◌∙◌, ⊎_elim}
use Rattle.std.specs.List.{list_any}
use Rattle.std.proofs.lemmas.Bool.{cases_Bool, false≢true}
use Rattle.std.proofs.lemmas.List.{append_assoc}
use Rattle.sk_rows.specs.declared.table.Table.{Table}
use Rattle.sk_model.specs.declared.label.Label.{Label}
use Rattle.sk_model.specs.declared.engine.EngineName.{EngineName}
use Rattle.sk_model.specs.declared.point.Point.{Point}
use Rattle.sk_model.specs.declared.call.EngineCall.{EngineCall}
use Rattle.sk_model.specs.declared.call.EngineCall.TheVariants as call
use Rattle.sk_model.specs.declared.call.EngineReply.{EngineReply}
use Rattle.sk_model.specs.declared.call.EngineReply.TheVariants.{Done, Found, Rows, Number, Commits, Fault}
use Rattle.sk_model.specs.declared.call.Entry.{Entry}
use Rattle.sk_model.specs.Database.{Tables}
use Rattle.sk_model.specs.Calls.{ends}
use Rattle.sk_model.specs.Talks.{calls_in, is_by}
use Rattle.sk_model.proofs.Lists.{Each}
use Rattle.sk_linked.specs.Traces.{drawn_at, Transaction, is_stamp, has_stamped, owes, stamp_entry, stamp_if, owed_by, opens, NotAgain, close_entry, Drew}
use Rattle.sk_linked.specs.Joining.{Phase, Unopened, Opened, Closed, Over, is_unopened, is_opened, in_turn, closed_with, phase_after, CallsInTurn, Ends, Behaves}
use Rattle.sk_linked.proofs.Going.{any_stamp, none_stamped}

abbrev is_shut : Phase → Bool
is_shut Unopened = false
is_shut Opened = false
is_shut (Closed f) = true
is_shut Over = true

shut_unopened : (p : Phase) → is_shut p ≡ true → is_unopened p ≡ false
shut_unopened Unopened s = absurd (false≢true s)
shut_unopened Opened s = refl
shut_unopened (Closed f) s = refl
shut_unopened Over s = refl

shut_opened : (p : Phase) → is_shut p ≡ true → is_opened p ≡ false
shut_opened Unopened s = refl
shut_opened Opened s = absurd (false≢true s)
shut_opened (Closed f) s = refl
shut_opened Over s = refl

closed_shut : (reply : EngineReply) → is_shut (closed_with reply) ≡ true
closed_shut Done = refl
closed_shut (Found r) = refl
closed_shut (Rows rows) = refl
closed_shut (Number n) = refl
closed_shut (Commits cs) = refl
closed_shut (Fault f) = refl

-- behind a close or an end it stays so
shut_stays : (p : Phase) (c : EngineCall) (reply : EngineReply) → is_shut p ≡ true → in_turn p c ≡ true → is_shut (phase_after c reply p) ≡ true
shut_stays p (call.Open tx n) reply s t = absurd (false≢true (sym (shut_unopened p s) ∙ t))
shut_stays p (call.Get tx n key) reply s t = s
shut_stays p (call.Scan tx n) reply s t = s
shut_stays p (call.Put tx n key row) reply s t = s
shut_stays p (call.Close tx) reply s t = closed_shut reply
shut_stays p (call.Stamp tx n) reply s t = refl
shut_stays p (call.Void tx n) reply s t = refl
shut_stays p (call.DropTx tx) reply s t = refl
shut_stays p call.Horizon reply s t = s
shut_stays p (call.Records from to) reply s t = s
shut_stays p (call.Purge upto) reply s t = s

ends_shut : (l : Label) (p : Phase) (c : EngineCall) (reply : EngineReply) → ends l c ≡ true → is_shut (phase_after c reply p) ≡ true
ends_shut l p (call.Open tx n) reply e = absurd (false≢true e)
ends_shut l p (call.Get tx n key) reply e = absurd (false≢true e)
ends_shut l p (call.Scan tx n) reply e = absurd (false≢true e)
ends_shut l p (call.Put tx n key row) reply e = absurd (false≢true e)
ends_shut l p (call.Close tx) reply e = closed_shut reply
ends_shut l p (call.Stamp tx n) reply e = refl
ends_shut l p (call.Void tx n) reply e = refl
ends_shut l p (call.DropTx tx) reply e = refl
ends_shut l p call.Horizon reply e = absurd (false≢true e)
ends_shut l p (call.Records from to) reply e = absurd (false≢true e)
ends_shut l p (call.Purge upto) reply e = absurd (false≢true e)

opens_not : (l : Label) (p : Phase) (c : EngineCall) → is_shut p ≡ true → in_turn p c ≡ true → opens l c ≡ false
opens_not l p (call.Open tx n) s t = absurd (false≢true (sym (shut_unopened p s) ∙ t))
opens_not l p (call.Get tx n key) s t = refl
opens_not l p (call.Scan tx n) s t = refl
opens_not l p (call.Put tx n key row) s t = refl
opens_not l p (call.Close tx) s t = refl
opens_not l p (call.Stamp tx n) s t = refl
opens_not l p (call.Void tx n) s t = refl
opens_not l p (call.DropTx tx) s t = refl
opens_not l p call.Horizon s t = refl
opens_not l p (call.Records from to) s t = refl
opens_not l p (call.Purge upto) s t = refl

none_open : (l : Label) (p : Phase) (js : List Entry) → is_shut p ≡ true → CallsInTurn p js → Each (λ (j : Entry). opens l j.call ≡ false) js
none_open l p [] s h = tt
none_open l p (j ∷ js) s h = (opens_not l p j.call s h.0, none_open l (phase_after j.call j.reply p) js (shut_stays p j.call j.reply s h.0) h.1)

-- calls in their turn do not open again behind a close or an end
pub not_again : (l : Label) (p : Phase) (js : List Entry) → CallsInTurn p js → NotAgain l js
not_again l p [] h = tt
not_again l p (j ∷ js) h = ((λ e. none_open l (phase_after j.call j.reply p) js (ends_shut l p j.call j.reply e) h.1), not_again l (phase_after j.call j.reply p) js h.1)

no_close : (l : Label) (floor : ℕ) (p : Phase) (xs ys : List Entry) → is_shut p ≡ true → CallsInTurn p (xs ++ close_entry l floor ∷ ys) → ⊥
no_close l floor p [] ys s h = false≢true (sym (shut_opened p s) ∙ h.0)
no_close l floor p (x ∷ xs) ys s h = no_close l floor (phase_after x.call x.reply p) xs ys (shut_stays p x.call x.reply s h.0) h.1

-- nor do they end before a close
pub none_ends : (l : Label) (floor : ℕ) (p : Phase) (xs ys : List Entry) → CallsInTurn p (xs ++ close_entry l floor ∷ ys) → Each (λ (j : Entry). ends l j.call ≡ false) xs
none_ends l floor p [] ys h = tt
none_ends l floor p (x ∷ xs) ys h = (
  ⊎_elim
      (λ (e : ends l x.call ≡ true). absurd (no_close l floor (phase_after x.call x.reply p) xs ys (ends_shut l p x.call x.reply e) h.1))
      (λ (f : ends l x.call ≡ false). f)
      (cases_Bool (ends l x.call)),
  none_ends l floor (phase_after x.call x.reply p) xs ys h.1,
)

-- where it drew, its calls are as linked traces want them
pub drew_of : (catalog : List Table) (rows : Tables) (points : List Point) (t : Transaction) (name : EngineName) (n : ℕ) → Behaves catalog rows points t
    → Each (λ (j : Entry). is_by t.label j ≡ true) (calls_in name t.talk) → drawn_at name t.drew ≡ Some n → Drew t name n
drew_of catalog rows points t name n b mine e =
    let d : Ends t name n = b.ends name n e in
    let free : Each (λ (j : Entry). ends t.label j.call ≡ false) d.before = none_ends t.label d.floor Unopened d.before d.tail (subst (CallsInTurn Unopened) d.is (b.ordered name)) in
    record {
      before = d.before;
      floor = d.floor;
      tail = d.tail;
      is = d.is;
      none_ends = free;
      past = d.past;
      wrote = d.wrote;
      once = λ c. ⊎_elim (λ (k : d.tail ≡ []). still d free c k) (λ (k : d.tail ≡ stamp_entry t.label n ∷ []). made d c k) (d.stamps c);
    }
  where
    -- its stamp is still to come
    still : (d : Ends t name n) → Each (λ (j : Entry). ends t.label j.call ≡ false) d.before → t.committed ≡ true → d.tail ≡ [] → d.tail ++ owed_by name t ≡ stamp_entry t.label n ∷ []
    still d free c k =
        let calls : calls_in name t.talk ≡ d.before ++ close_entry t.label d.floor ∷ [] = d.is ∙ ap (λ xs. d.before ++ close_entry t.label d.floor ∷ xs) k in
        let unstamped : has_stamped name t ≡ false = ap (list_any (λ (j : Entry). is_stamp j.call)) calls ∙ none_stamped t name d.before d.floor (subst (λ xs. Each (λ (j : Entry). is_by t.label j ≡ true) xs) calls mine) free in
        let owing : owes name t ≡ true = ap (λ b. b && not (has_stamped name t)) c ∙ ap not unstamped in
        ap (λ xs. xs ++ owed_by name t) k ∙ ap (λ b. stamp_if b t.label (drawn_at name t.drew)) owing ∙ ap (stamp_if true t.label) e

    -- it was made
    made : (d : Ends t name n) → t.committed ≡ true → d.tail ≡ stamp_entry t.label n ∷ [] → d.tail ++ owed_by name t ≡ stamp_entry t.label n ∷ []
    made d c k =
        let calls : calls_in name t.talk ≡ (d.before ++ close_entry t.label d.floor ∷ []) ++ stamp_entry t.label n ∷ [] =
        d.is ∙ ap (λ xs. d.before ++ close_entry t.label d.floor ∷ xs) k ∙ sym (append_assoc d.before (close_entry t.label d.floor ∷ []) (stamp_entry t.label n ∷ [])) in
        let has : has_stamped name t ≡ true = ap (list_any (λ (j : Entry). is_stamp j.call)) calls ∙ any_stamp t.label n (d.before ++ close_entry t.label d.floor ∷ []) in
        let owing : owes name t ≡ false = ap (λ b. b && not (has_stamped name t)) c ∙ ap not has in
        ap (λ xs. xs ++ owed_by name t) k ∙ ap (λ b. stamp_entry t.label n ∷ stamp_if b t.label (drawn_at name t.drew)) owing
