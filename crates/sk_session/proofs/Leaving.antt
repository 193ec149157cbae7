-- A transaction that is given up: its openings are ended one after another, and its record has just the calls that it made.
use Rattle.std.specs.Prelude.{◌≡◌, ℕ, List, [], ◌∷◌, ◌++◌, Option, Some, None, Bool, true, false, ◌||◌, IfSome, is_some}
use Rattle.std.proofs.Common.{refl, sym, ap, subst, ◌∙◌, inl, append-nil, append_assoc}
use Rattle.std.specs.List.{AllByRecursion}
use Rattle.std.proofs.lemmas.Bool.{or_parts}
use Rattle.sk_rows.specs.declared.table.Table.{Table}
use Rattle.sk_rows.specs.declared.statement.Statement.{Statement}
use Rattle.sk_rows.specs.declared.statement.Statement.TheVariants as statement
use Rattle.sk_model.specs.declared.engine.EngineName.TheVariants.{Mem, Store}
use Rattle.sk_model.specs.declared.reply.Reply.{Reply}
use Rattle.sk_model.specs.declared.record.Said.{Said}
use Rattle.sk_model.specs.declared.record.Record.{Record}
use Rattle.sk_model.specs.declared.record.Ending.{Ending}
use Rattle.sk_model.specs.declared.record.Ending.TheVariants as ending
use Rattle.sk_model.specs.declared.step.StepName.{StepName}
use Rattle.sk_model.specs.declared.call.EngineCall.TheVariants as call
use Rattle.sk_model.specs.declared.call.EngineReply.TheVariants as answer
use Rattle.sk_model.specs.Spoken.{is_lost}
use Rattle.sk_model.specs.Talks.{Talk, own, wrote}
use Rattle.sk_model.specs.Asking.{Rest, Asked}
use Rattle.sk_model.specs.Records.{is_committed}
use Rattle.sk_model.specs.RecordTalks.{Converses, is_last, is_end, commit_steps, Numbered, left_by, owes, is_open, leaves_of, EndsAt, EndReplyTo, EndReply, lost_ending}
use Rattle.sk_session.specs.Kept.{listed, said_maybe}
use Rattle.sk_session.specs.declared.live.Live.{Live}
use Rattle.sk_session.specs.Moving.{said_now, passed_at, record_of}
use Rattle.sk_session.specs.Speaks.{Answering, LastFits, is_given_up, GivenUp, Leaves, Over}
use Rattle.sk_session.proofs.Talking.{spoken_push}

-- ---- what the record says

-- nothing was drawn
nothing_drawn : Numbered
nothing_drawn = record { floor_mem = 0; floor_store = 0; mem = None; store = None }

owes_it : (how : Ending) (snapshot : Option ℕ) (written : Bool) → is_given_up how ≡ true → owes how snapshot written ≡ is_some snapshot
owes_it ending.RolledBack None w e = refl
owes_it ending.RolledBack (Some n) w e = refl
owes_it ending.Conflict None w e = refl
owes_it ending.Conflict (Some n) w e = refl
owes_it ending.Recycled None w e = refl
owes_it ending.Recycled (Some n) w e = refl
owes_it ending.Old None w e = refl
owes_it ending.Old (Some n) w e = refl
owes_it ending.Device None w e = refl
owes_it ending.Device (Some n) w e = refl
owes_it ending.NoMemory None w e = refl
owes_it ending.NoMemory (Some n) w e = refl
owes_it _ snapshot w e = absurd cc

ends_before : (how : Ending) (rest : List StepName) → is_given_up how ≡ true → EndsAt how [] rest
ends_before ending.RolledBack rest e = refl
ends_before ending.Conflict rest e = refl
ends_before ending.Recycled rest e = refl
ends_before ending.Old rest e = refl
ends_before ending.Device rest e = refl
ends_before ending.NoMemory rest e = refl
ends_before _ rest e = absurd cc

given_up_ended : (how : Ending) → is_given_up how ≡ true → is_open how ≡ false
given_up_ended ending.Open e = absurd cc
given_up_ended _ e = refl

given_up_fails : (how : Ending) → is_given_up how ≡ true → is_committed how ≡ false
given_up_fails ending.Committed e = absurd cc
given_up_fails _ e = refl

-- a statement that is not the last has no reply that ends the transaction
not_an_end : (r : Record) (said : Reply) (s : Statement) → is_end s ≡ false → EndReplyTo r said s
not_an_end r said statement.Commit e = absurd cc
not_an_end r said statement.Rollback e = absurd cc
not_an_end r said (statement.Begin begun) e = tt
not_an_end r said (statement.Insert table values) e = tt
not_an_end r said (statement.Select table names c) e = tt
not_an_end r said (statement.Update table sets c) e = tt
not_an_end r said (statement.Delete table c) e = tt

abbrev Replied : Record → List Said → Type 0
Replied r said = AllByRecursion (EndReply r) said

abbrev LostSo : Record → List Said → Type 0
LostSo r said = AllByRecursion (λ (s : Said). is_lost s.reply ≡ true → r.ending ≡ lost_ending s.reply) said

replied : (r : Record) (said : List Said) (now : Option Statement) (last : Reply) → AllByRecursion (λ (s : Said). is_last s ≡ false) said → LastFits r.ending last now → Replied r (said ++ said_maybe (said_now now last))
replied r [] None last going fits = tt
replied r [] (Some s) last going fits = (fits.0 r refl, tt)
replied r (x ∷ said) now last going fits = (not_an_end r x.reply x.statement (or_parts (is_lost x.reply) (is_end x.statement) going.0).1, replied r said now last going.1 fits)

lost_so : (r : Record) (said : List Said) (now : Option Statement) (last : Reply) → AllByRecursion (λ (s : Said). is_last s ≡ false) said → LastFits r.ending last now → LostSo r (said ++ said_maybe (said_now now last))
lost_so r [] None last going fits = tt
lost_so r [] (Some s) last going fits = (fits.1, tt)
lost_so r (x ∷ said) now last going fits =
    let kept : is_lost x.reply ≡ false = (or_parts (is_lost x.reply) (is_end x.statement) going.0).0 in
    ((λ l. absurd (cc (l, kept))), lost_so r said now last going.1 fits)

none_past : (P : ℕ → Type 0) (n : Option ℕ) → n ≡ None → IfSome n P
none_past P None e = tt
none_past P (Some n) e = absurd cc

-- all calls of a transaction that was given up
abbrev pub all_left : Live → Talk
all_left live = left_by live.label Mem (is_some live.mem) None ++ left_by live.label Store (is_some live.store) None

module _ (catalog : List Table) (live : Live) (how : Ending) (r : Reply) (spoken : Talk) (over : GivenUp catalog live how r spoken) where
  leaves_are : leaves_of (record_of live how r) (wrote Mem spoken) (wrote Store spoken) ≡ all_left live
  leaves_are =
      ap (λ b. left_by live.label Mem b live.drew_mem ++ left_by live.label Store (owes how live.store (wrote Store spoken)) live.drew_store) (owes_it how live.mem (wrote Mem spoken) over.given_up)
      ∙ ap (λ b. left_by live.label Mem (is_some live.mem) live.drew_mem ++ left_by live.label Store b live.drew_store) (owes_it how live.store (wrote Store spoken) over.given_up)
      ∙ ap (λ d. left_by live.label Mem (is_some live.mem) d ++ left_by live.label Store (is_some live.store) live.drew_store) over.knows.mem_undrawn
      ∙ ap (λ d. left_by live.label Mem (is_some live.mem) None ++ left_by live.label Store (is_some live.store) d) over.knows.store_undrawn

  -- its record has just these calls
  pub given_up_talks : Over catalog (record_of live how r) (spoken ++ all_left live)
  unfolding nothing_drawn
  given_up_talks = record {
    talks = record {
      heard = live.said ++ said_maybe (said_now live.statement r);
      spoken = spoken;
      taken = [];
      rest = commit_steps (wrote Mem spoken) (wrote Store spoken);
      numbered = nothing_drawn;
      talk_is = ap (λ t. spoken ++ t) (sym leaves_are);
      said = inl refl;
      asked = over.heard;
      mem = over.knows.mem;
      store = over.knows.store;
      steps = refl;
      drew_mem = over.knows.mem_undrawn;
      drew_store = over.knows.store_undrawn;
      mem_drawn = ap is_some over.knows.mem_undrawn;
      store_drawn = ap is_some over.knows.store_undrawn;
      past_mem = none_past _ live.drew_mem over.knows.mem_undrawn;
      past_store = none_past _ live.drew_store over.knows.store_undrawn;
      selected = listed live.selected;
      selection = over.knows.selection;
      made = ap (λ b. listed live.selected ++ listed (passed_at b live.drew_mem live.drew_store)) over.knows.unpassed;
      ends = ends_before how _ over.given_up;
      replies = replied (record_of live how r) live.said live.statement r over.going over.last;
      lost = lost_so (record_of live how r) live.said live.statement r over.going over.last;
    };
    ended = given_up_ended how over.given_up;
    whole = λ c. absurd (cc (c, given_up_fails how over.given_up));
  }

-- ---- one opening after another

-- the statements with the one that is answered this
pub heard_all : (catalog : List Table) (live : Live) (now : Statement) (R : Rest) (talk : Talk) (r : Reply) → Answering catalog live now R talk → R [] r → Converses catalog live.label live.kind [] (live.said ++ record { statement = now; reply = r } ∷ []) talk
heard_all catalog live now R talk r w h =
    let last : Said = record { statement = now; reply = r } in
    subst (Converses catalog live.label live.kind [] (live.said ++ last ∷ [])) (sym w.talk_is)
    (spoken_push catalog live.label live.kind [] live.said w.before last w.part w.said w.going (subst (λ t. Asked catalog live.label live.kind w.before now t r) (append-nil w.part) (w.whole [] r h)))

-- a statement was answered this, and with it the transaction is given up
pub gives_up : (catalog : List Table) (live : Live) (now : Statement) (R : Rest) (talk : Talk) (how : Ending) (r : Reply) → Answering catalog live now R talk → R [] r
    → is_given_up how ≡ true → (is_lost r ≡ true → how ≡ lost_ending r) → GivenUp catalog live how r talk
gives_up catalog live now R talk how r w h given lost =
    let is : live.said ++ said_maybe (said_now live.statement r) ≡ live.said ++ record { statement = now; reply = r } ∷ [] = ap (λ o. live.said ++ said_maybe (said_now o r)) w.statement_is in
    record {
      knows = w.knows;
      heard = subst (λ ss. Converses catalog live.label live.kind [] ss talk) (sym is) (heard_all catalog live now R talk r w h);
      going = w.going;
      last = subst (LastFits how r) (sym w.statement_is) ((λ x e. not_an_end x r now w.goes_on), lost);
      given_up = given;
    }

-- the openings are ended from the memory engine's on
pub leaves_mem : (catalog : List Table) (live : Live) (how : Ending) (r : Reply) (spoken : Talk) → GivenUp catalog live how r spoken → is_some live.mem ≡ true → Leaves catalog live Mem how r spoken
leaves_mem catalog live how r spoken over is = record { spoken = spoken; over = over; talk_is = sym (append-nil spoken); opened = is }

-- or from the storage engine's on, where the memory engine is not open
pub leaves_store : (catalog : List Table) (live : Live) (how : Ending) (r : Reply) (spoken : Talk) → GivenUp catalog live how r spoken → is_some live.mem ≡ false → is_some live.store ≡ true → Leaves catalog live Store how r spoken
leaves_store catalog live how r spoken over none is = record {
  spoken = spoken;
  over = over;
  talk_is = sym (ap (λ b. spoken ++ left_by live.label Mem b None) none ∙ append-nil spoken);
  opened = is;
}

-- where neither is open, the record has the calls of the statements alone
pub leaves_none : (catalog : List Table) (live : Live) (how : Ending) (r : Reply) (spoken : Talk) → GivenUp catalog live how r spoken → is_some live.mem ≡ false → is_some live.store ≡ false → Over catalog (record_of live how r) spoken
leaves_none catalog live how r spoken over mem store =
    subst (Over catalog (record_of live how r))
    (ap (λ b. spoken ++ (left_by live.label Mem b None ++ left_by live.label Store (is_some live.store) None)) mem ∙ ap (λ b. spoken ++ left_by live.label Store b None) store ∙ append-nil spoken)
    (given_up_talks catalog live how r spoken over)

module _ (catalog : List Table) (live : Live) (how : Ending) (r : Reply) (talk : Talk) where
  -- the memory engine was left, and the storage engine is left next
  pub left_mem : Leaves catalog live Mem how r talk → is_some live.store ≡ true → Leaves catalog live Store how r (talk ++ own Mem (call.DropTx live.label) answer.Done ∷ [])
  left_mem l is = record {
    spoken = l.spoken;
    over = l.over;
    talk_is =
        ap (λ t. t ++ own Mem (call.DropTx live.label) answer.Done ∷ []) (l.talk_is ∙ append-nil l.spoken)
        ∙ sym (ap (λ b. l.spoken ++ left_by live.label Mem b None) l.opened);
    opened = is;
  }

  -- the memory engine was left, and no other is open
  pub left_mem_last : Leaves catalog live Mem how r talk → is_some live.store ≡ false → Over catalog (record_of live how r) (talk ++ own Mem (call.DropTx live.label) answer.Done ∷ [])
  left_mem_last l none =
      subst (Over catalog (record_of live how r))
      (ap (λ b. l.spoken ++ (left_by live.label Mem b None ++ left_by live.label Store (is_some live.store) None)) l.opened
      ∙ ap (λ b. l.spoken ++ (left_by live.label Mem true None ++ left_by live.label Store b None)) none
      ∙ ap (λ t. t ++ own Mem (call.DropTx live.label) answer.Done ∷ []) (sym (append-nil l.spoken) ∙ sym l.talk_is))
      (given_up_talks catalog live how r l.spoken l.over)

  -- the storage engine was left, which is the last one
  pub left_store : Leaves catalog live Store how r talk → Over catalog (record_of live how r) (talk ++ own Store (call.DropTx live.label) answer.Done ∷ [])
  left_store l =
      subst (Over catalog (record_of live how r))
      (ap (λ b. l.spoken ++ (left_by live.label Mem (is_some live.mem) None ++ left_by live.label Store b None)) l.opened
      ∙ sym (append_assoc l.spoken (left_by live.label Mem (is_some live.mem) None) (own Store (call.DropTx live.label) answer.Done ∷ []))
      ∙ ap (λ t. t ++ own Store (call.DropTx live.label) answer.Done ∷ []) (sym l.talk_is))
      (given_up_talks catalog live how r l.spoken l.over)
