-- What the table of refusals refuses is answered so, with one line more.
use Rattle.std.specs.Prelude.{◌≡◌, ℕ, zero, suc, ◌+◌, ◌<◌, List, [], ◌∷◌, ◌++◌, Option, map, length, false, ◌==◌}
use Rattle.std.specs.List.{range_with_len}
use Rattle.std.proofs.Common.{sym, ap, subst, ◌∙◌, arith}
use Rattle.std.proofs.Math.Seq.{get_or-append_seam, set-append_seam}
use Rattle.std.proofs.Math.ListN.{get_or, set}
use Rattle.std.proofs.lemmas.Bool.{ne_eqb}
use Rattle.sk_rows.specs.declared.table.Table.{Table}
use Rattle.sk_rows.specs.declared.statement.Statement.{Statement}
use Rattle.sk_model.specs.declared.reply.Reply.{Reply}
use Rattle.sk_model.specs.declared.call.Entry.{Entry}
use Rattle.sk_model.specs.Engine.{EngineTable}
use Rattle.sk_mem.specs.declared.engine.MemEngine.{MemEngine}
use Rattle.sk_store.specs.declared.engine.StoreEngine.{StoreEngine}
use Rattle.sk_session.specs.declared.session.Session.{Session}
use Rattle.sk_session.specs.Heard as stand
use Rattle.sk_session.specs.Heard.{Stand, stand_at, RefusesAll, LineRefuses}
use Rattle.sk_session.specs.Printed.{Line, HasPrinted}
use Rattle.sk_session.specs.Starting.{fresh}
use Rattle.sk_session.proofs.Obeyed.{refuses_on, new_refuses}
use Rattle.sk_run.specs.Told.{RunLine, lines_of, AreTold, AreRefused, ObeyTable}
use Rattle.sk_run.specs.State.{RunState}
use Rattle.sk_run.specs.Kept.{RefusesOn}
use Rattle.sk_run.proofs.Lines.{line_by, own_line, other_line, k_is}
use Rattle.sk_run.proofs.Over.{Middle, middle_of}

-- ---- no line yet

pub none_refused : (catalog : List Table) (k n : ℕ) → AreRefused catalog k [] (map fresh (range_with_len k n))
none_refused catalog k zero = tt
none_refused catalog k (suc n) = (new_refuses catalog k, none_refused catalog (k + 1) n)

-- ---- one line more

module _ (catalog : List Table) where
  refused_later : (k n : ℕ) (lines : List RunLine) (l : Line) (ss : List Session) → n < k → AreRefused catalog k lines ss → AreRefused catalog k (lines ++ line_by n l ∷ []) ss
  refused_later k n lines l [] less h = tt
  refused_later k n lines l (s ∷ ss) less h =
      let apart : (k == n) ≡ false = ne_eqb k n (λ e. omega (arith, less, e)) in (
        subst (λ xs. RefusesAll catalog stand.Outside xs (stand_at s.at)) (sym (other_line k n lines l apart)) h.0,
        refused_later (k + 1) n lines l ss (omega (arith, less)) h.1,
      )

  refused_on : (k n : ℕ) (before : List Session) (old new : Session) (after : List Session) (lines : List RunLine) (l : Line) → n ≡ length before + k
      → ((xs : List Line) → HasPrinted xs old → RefusesAll catalog stand.Outside xs (stand_at old.at) → RefusesAll catalog stand.Outside (xs ++ l ∷ []) (stand_at new.at))
      → AreTold k lines (before ++ old ∷ after) → AreRefused catalog k lines (before ++ old ∷ after) → AreRefused catalog k (lines ++ line_by n l ∷ []) (before ++ new ∷ after)
  refused_on k n [] old new after lines l at one t h = (
    subst (λ m. RefusesAll catalog stand.Outside (lines_of k (lines ++ line_by m l ∷ [])) (stand_at new.at)) (k_is n k at)
        (subst (λ xs. RefusesAll catalog stand.Outside xs (stand_at new.at)) (sym (own_line k lines l)) (one (lines_of k lines) t.1 h.0)),
    refused_later (k + 1) n lines l after (omega (arith, at)) h.1,
  )
  refused_on k n (b ∷ before) old new after lines l at one t h =
      let apart : (k == n) ≡ false = ne_eqb k n (λ e. omega (arith, at, e)) in (
        subst (λ xs. RefusesAll catalog stand.Outside xs (stand_at b.at)) (sym (other_line k n lines l apart)) h.0,
        refused_on (k + 1) n before old new after lines l (omega (arith, at)) one t.2 h.1,
      )

  -- each of the sessions, by number
  pub obey : (k : ℕ) (lines : List RunLine) (ss : List Session) → AreRefused catalog k lines ss → ObeyTable catalog lines (range_with_len k (length ss))
  obey k lines [] h = tt
  obey k lines (s ∷ ss) h = ((stand_at s.at, h.0), obey (k + 1) lines ss h.1)

-- ---- a line of the run

pub line_refuses_on : (mem : MemEngine → EngineTable → List Entry → Type 0) (store : StoreEngine → EngineTable → List Entry → Type 0) (old new : RunState) (number at : ℕ) (s : Option Statement) (speaker spoken : Session) (reply : Reply) → number ≡ at + 1
    → at < length old.sessions → speaker ≡ get_or old.sessions at speaker → new.sessions ≡ set old.sessions at spoken → LineRefuses old.catalog speaker s spoken reply → RefusesOn mem store old number s new reply
line_refuses_on mem store old new number at s speaker spoken reply counts inside is set_to one b lines fs k h =
    let m : Middle old.sessions at = middle_of old.sessions at inside in
    let who : m.one ≡ speaker =
    sym (is ∙ ap (λ xs. get_or xs at speaker) m.is ∙ ap (λ i. get_or (m.before ++ m.one ∷ m.after) i speaker) (sym m.place) ∙ get_or-append_seam m.before m.one m.after speaker) in
    let sessions : new.sessions ≡ m.before ++ spoken ∷ m.after =
    set_to ∙ ap (λ xs. set xs at spoken) m.is ∙ ap (λ i. set (m.before ++ m.one ∷ m.after) i spoken) (sym m.place) ∙ set-append_seam m.before m.one m.after spoken in
    subst (AreRefused old.catalog 1 (lines ++ line_by number (s, reply) ∷ [])) (sym sessions)
    (refused_on old.catalog 1 number m.before m.one spoken m.after lines (s, reply) (counts ∙ ap (λ n. n + 1) (sym m.place))
    (λ xs p r. refuses_on old.catalog xs m.one s spoken reply p (subst (λ (y : Session). LineRefuses old.catalog y s spoken reply) (sym who) one) r)
    (subst (AreTold 1 lines) m.is k.told) (subst (AreRefused old.catalog 1 lines) m.is h))
