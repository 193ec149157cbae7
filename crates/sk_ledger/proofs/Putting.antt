-- The puts of a journal, entry by entry, and in a map by the transactions that made them.
use Rattle.std.specs.Prelude.{◌≡◌, ℕ, zero, suc, List, [], ◌∷◌, ◌++◌, Option, Some, None, Bool, true, false, cond, ◌==◌, ◌&&◌, map, replicate, Result, Ok, Err, IfOk}
use Rattle.std.proofs.Common.{refl, sym, ap, ◌∙◌, ⊎_elim, arith}
use Rattle.std.specs.Option.{unwrap_or}
use Rattle.std.specs.List.{flat_map}
use Rattle.std.specs.Map.{lookup}
use Rattle.std.specs.BTreeMap.{BTreeMap, is_at}
use Rattle.std.proofs.lemmas.Bool.{cases_Bool, cond-true, cond-false}
use Rattle.std.proofs.lemmas.List.{append_assoc, append-nil}
use Rattle.sk_model.specs.declared.label.Label.{Label}
use Rattle.sk_model.specs.declared.commit.Write.{Write}
use Rattle.sk_model.specs.declared.call.EngineCall.{EngineCall}
use Rattle.sk_model.specs.declared.call.EngineCall.TheVariants as call
use Rattle.sk_model.specs.declared.call.EngineReply.{EngineReply}
use Rattle.sk_model.specs.declared.call.EngineReply.TheVariants.{Done, Found, Rows, Number, Commits, Fault}
use Rattle.sk_model.specs.declared.call.Entry.{Entry}
use Rattle.sk_model.specs.declared.journal.HorizonRun.{HorizonRun}
use Rattle.sk_model.specs.declared.journal.JournalPart.{JournalPart}
use Rattle.sk_model.specs.Records.{same_label}
use Rattle.sk_model.specs.Engine.{label_cmp, write_at}
use Rattle.sk_model.specs.Journal.{horizon_entry, run_entries, part_entries, entries_in}
use Rattle.sk_model.specs.Talks.{if_done, is_done, wrote_by, wrote_in, tx_of, is_tx, is_by, entries_by}
use Rattle.sk_model.proofs.Labels.{same_is, label_tied}
use Rattle.sk_ledger.specs.Ledger.{puts_in_journal}
use Rattle.sk_ledger.specs.Puts.{put_of_call, put_of, puts_at, with_put, HasPuts}

-- ---- one entry

-- the write of a put, where q made it
abbrev put_by : Label → Option (Label × Write) → List Write
put_by q None = []
put_by q (Some p) = cond (same_label q p.0) (p.1 ∷ []) []

abbrev no_writes : List Write
no_writes = []

none_either : (b : Bool) → cond b [] [] ≡ no_writes
none_either true = refl
none_either false = refl

put_done : (q tx : Label) (w : Write) (reply : EngineReply) → cond (same_label q tx) (if_done w reply) [] ≡ put_by q (cond (is_done reply) (Some (tx, w)) None)
put_done q tx w Done = refl
put_done q tx w (Found r) = none_either (same_label q tx)
put_done q tx w (Rows rows) = none_either (same_label q tx)
put_done q tx w (Number n) = none_either (same_label q tx)
put_done q tx w (Commits cs) = none_either (same_label q tx)
put_done q tx w (Fault f) = none_either (same_label q tx)

of_call : (q : Label) (asked : EngineCall) (reply : EngineReply) → cond (is_tx q (tx_of asked)) (wrote_by asked reply) [] ≡ put_by q (put_of_call asked reply)
of_call q (call.Open tx s) reply = none_either (same_label q tx)
of_call q (call.Get tx t key) reply = none_either (same_label q tx)
of_call q (call.Scan tx t) reply = none_either (same_label q tx)
of_call q (call.Put tx t key row) reply = put_done q tx (write_at t key row) reply
of_call q (call.Close tx) reply = none_either (same_label q tx)
of_call q (call.Stamp tx n) reply = none_either (same_label q tx)
of_call q (call.Void tx n) reply = none_either (same_label q tx)
of_call q (call.DropTx tx) reply = none_either (same_label q tx)
of_call q call.Horizon reply = refl
of_call q (call.Records from to) reply = refl
of_call q (call.Purge upto) reply = refl

picked : (b : Bool) (j : Entry) (ks : List Entry) → wrote_in (cond b (j ∷ ks) ks) ≡ cond b (wrote_by j.call j.reply) [] ++ wrote_in ks
picked true j ks = refl
picked false j ks = refl

one_entry : (q : Label) (j : Entry) (js : List Entry) → puts_in_journal q (j ∷ js) ≡ put_by q (put_of j) ++ puts_in_journal q js
one_entry q j js = picked (is_by q j) j (entries_by q js) ∙ ap (λ ws. ws ++ puts_in_journal q js) (of_call q j.call j.reply)

-- ---- many entries

both : (q : Label) (js ks : List Entry) → puts_in_journal q (js ++ ks) ≡ puts_in_journal q js ++ puts_in_journal q ks
both q [] ks = refl
both q (j ∷ js) ks =
    one_entry q j (js ++ ks) ∙ ap (λ ws. put_by q (put_of j) ++ ws) (both q js ks) ∙ sym (append_assoc (put_by q (put_of j)) (puts_in_journal q js) (puts_in_journal q ks))
    ∙ ap (λ ws. ws ++ puts_in_journal q ks) (sym (one_entry q j js))

one_more : (q : Label) (js : List Entry) (j : Entry) → puts_in_journal q (js ++ j ∷ []) ≡ puts_in_journal q js ++ put_by q (put_of j)
one_more q js j = both q js (j ∷ []) ∙ ap (λ ws. puts_in_journal q js ++ ws) (one_entry q j [] ∙ append-nil (put_by q (put_of j)))

horizons : (q : Label) (a n : ℕ) → puts_in_journal q (replicate n (horizon_entry a)) ≡ []
horizons q a zero = refl
horizons q a (suc n) = horizons q a n

of_part : (q : Label) (part : JournalPart) → puts_in_journal q (part_entries part) ≡ puts_in_journal q (part.entry ∷ [])
of_part q part = both q (run_entries part.horizons) (part.entry ∷ []) ∙ ap (λ ws. ws ++ puts_in_journal q (part.entry ∷ [])) (horizons q part.horizons.answer part.horizons.count)

of_parts : (q : Label) (parts : List JournalPart) → puts_in_journal q (map (λ (p : JournalPart). p.entry) parts) ≡ puts_in_journal q (flat_map part_entries parts)
of_parts q [] = refl
of_parts q (p ∷ ps) =
    both q (p.entry ∷ []) (map (λ (p : JournalPart). p.entry) ps)
    ∙ ap (λ ws. ws ++ puts_in_journal q (map (λ (p : JournalPart). p.entry) ps)) (sym (of_part q p))
    ∙ ap (λ ws. puts_in_journal q (part_entries p) ++ ws) (of_parts q ps)
    ∙ sym (both q (part_entries p) (flat_map part_entries ps))

-- Horizons are no puts
of_journal : (entries : List (Label × List Write)) (parts : List JournalPart) (run : HorizonRun) (js : List Entry) → js ≡ entries_in parts run → HasPuts entries (map (λ (p : JournalPart). p.entry) parts) → HasPuts entries js
of_journal entries parts run js is h q =
    h q ∙ of_parts q parts ∙ sym (append-nil (puts_in_journal q (flat_map part_entries parts)))
    ∙ ap (λ ws. puts_in_journal q (flat_map part_entries parts) ++ ws) (sym (horizons q run.answer run.count))
    ∙ sym (both q (flat_map part_entries parts) (run_entries run)) ∙ ap (puts_in_journal q) (sym is)

pub of_journal_if : {E : Type 0} (r : Result (BTreeMap Label (List Write)) E) (parts : List JournalPart) (run : HorizonRun) (js : List Entry) → js ≡ entries_in parts run → IfOk r (λ m. HasPuts m.entries (map (λ (p : JournalPart). p.entry) parts)) → IfOk r (λ m. HasPuts m.entries js)
of_journal_if (Ok m) parts run js is h = of_journal m.entries parts run js is h
of_journal_if (Err e) parts run js is h = tt

-- ---- in a map

abbrev At : List (Label × List Write) → Label → Option (List Write)
At es q = lookup (is_at (label_cmp q)) es

-- a list without writes shows nothing
pub prepared : (es fs : List (Label × List Write)) (tx : Label) (ws : List Write) → ws ≡ [] → At es tx ≡ None → ((q : Label) → At fs q ≡ cond (is_at (label_cmp tx) q) (Some ws) (At es q))
    → (q : Label) → puts_at fs q ≡ puts_at es q
prepared es fs tx ws bare none new q = ⊎_elim
    (λ (e : is_at (label_cmp tx) q ≡ true).
    let at : tx ≡ q = same_is tx q (sym (label_tied tx q) ∙ e) in
    ap (λ x. unwrap_or x []) (new q ∙ cond-true (is_at (label_cmp tx) q) (Some ws) (At es q) e) ∙ bare ∙ ap (λ x. unwrap_or x []) (sym none ∙ ap (At es) at))
    (λ (e : is_at (label_cmp tx) q ≡ false). ap (λ x. unwrap_or x []) (new q ∙ cond-false (is_at (label_cmp tx) q) (Some ws) (At es q) e))
    (cases_Bool (is_at (label_cmp tx) q))

flip : (q tx : Label) → same_label q tx ≡ same_label tx q
flip q tx = ap (λ b. b && (q.k == tx.k)) (swap q.session tx.session) ∙ ap (λ b. (tx.session == q.session) && b) (swap q.k tx.k)
  where
    swap : (a b : ℕ) → (a == b) ≡ (b == a)
    swap a b = grind arith

-- one write more
pub pushed : (es fs : List (Label × List Write)) (tx : Label) (w : Write) (o n : List Write) → At es tx ≡ Some o → n ≡ o ++ w ∷ [] → ((q : Label) → At fs q ≡ cond (is_at (label_cmp tx) q) (Some n) (At es q))
    → (q : Label) → puts_at fs q ≡ with_put q tx w (puts_at es q)
pushed es fs tx w o n there is new q = ⊎_elim
    (λ (e : is_at (label_cmp tx) q ≡ true).
    let same : same_label tx q ≡ true = sym (label_tied tx q) ∙ e in
    let at : tx ≡ q = same_is tx q same in
    ap (λ x. unwrap_or x []) (new q ∙ cond-true (is_at (label_cmp tx) q) (Some n) (At es q) e) ∙ is ∙ ap (λ ws. ws ++ w ∷ []) (ap (λ x. unwrap_or x []) (sym there ∙ ap (At es) at))
    ∙ sym (cond-true (same_label q tx) (puts_at es q ++ w ∷ []) (puts_at es q) (flip q tx ∙ same)))
    (λ (e : is_at (label_cmp tx) q ≡ false).
    let unlike : same_label tx q ≡ false = sym (label_tied tx q) ∙ e in
    ap (λ x. unwrap_or x []) (new q ∙ cond-false (is_at (label_cmp tx) q) (Some n) (At es q) e) ∙ sym (cond-false (same_label q tx) (puts_at es q ++ w ∷ []) (puts_at es q) (flip q tx ∙ unlike)))
    (cases_Bool (is_at (label_cmp tx) q))

-- ---- an entry more in the map

with_it : (b : Bool) (w : Write) (ws : List Write) → cond b (ws ++ w ∷ []) ws ≡ ws ++ cond b (w ∷ []) []
with_it true w ws = refl
with_it false w ws = sym (append-nil ws)

pub put_more : (es ms fs : List (Label × List Write)) (js : List Entry) (j : Entry) (tx : Label) (w : Write) → put_of j ≡ Some (tx, w) → ((q : Label) → puts_at ms q ≡ puts_at es q) → ((q : Label) → puts_at fs q ≡ with_put q tx w (puts_at ms q))
    → HasPuts es js → HasPuts fs (js ++ j ∷ [])
put_more es ms fs js j tx w is ready new h q =
    new q ∙ ap (with_put q tx w) (ready q ∙ h q) ∙ with_it (same_label q tx) w (puts_in_journal q js) ∙ ap (λ p. puts_in_journal q js ++ put_by q p) (sym is) ∙ sym (one_more q js j)
