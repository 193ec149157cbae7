-- While a line is answered the records say what they said before, and each way that it ends adds what the line adds.
use Rattle.std.specs.Prelude.{◌≡◌, ℕ, List, [], ◌∷◌, ◌++◌, Option, Some, None, Bool, true, false, not, cond, slice_get}
use Rattle.std.proofs.Common.{refl, sym, ap, subst, ◌∙◌, inl, inr, append-nil}
use Rattle.sk_rows.specs.declared.table.Table.{Table}
use Rattle.sk_rows.specs.declared.value.Value.{Value}
use Rattle.sk_rows.specs.declared.statement.Statement.{Statement}
use Rattle.sk_rows.specs.declared.statement.Statement.TheVariants as statement
use Rattle.sk_model.specs.declared.commit.Write.{Write}
use Rattle.sk_model.specs.declared.engine.EngineName.{EngineName}
use Rattle.sk_model.specs.declared.record.Said.{Said}
use Rattle.sk_model.specs.declared.record.Record.{Record}
use Rattle.sk_model.specs.declared.record.Ending.{Ending}
use Rattle.sk_model.specs.declared.reply.Reply.{Reply}
use Rattle.sk_model.specs.declared.reply.Reply.TheVariants as reply
use Rattle.sk_model.specs.declared.reply.ErrWord.TheVariants as err
use Rattle.sk_model.specs.declared.call.EngineFault.{EngineFault}
use Rattle.sk_model.specs.declared.call.EngineFault.TheVariants as fault
use Rattle.sk_model.specs.Database.{KeyedRows}
use Rattle.sk_model.specs.Names.{columns_at}
use Rattle.sk_model.specs.Replies.{Answer, comes_to}
use Rattle.sk_model.specs.Asking.{table_named}
use Rattle.sk_model.specs.Spoken.{Seat, Outside, Inside, Ended, uses_label, is_lost}
use Rattle.sk_commit.specs.declared.committing.CommitEnd.{CommitEnd}
use Rattle.sk_commit.specs.declared.committing.CommitEnd.TheVariants.{Committed, CheckFailed, Spent, NoMemory}
use Rattle.sk_commit.specs.Fits.{IsLoss}
use Rattle.sk_session.specs.declared.turn.Turn.{Turn}
use Rattle.sk_session.specs.declared.turn.Turn.TheVariants as turn
use Rattle.sk_session.specs.declared.live.Live.{Live}
use Rattle.sk_session.specs.declared.live.At.{At}
use Rattle.sk_session.specs.declared.live.At.TheVariants as at
use Rattle.sk_session.specs.declared.live.Moved.{Moved}
use Rattle.sk_session.specs.Kept.{said_maybe}
use Rattle.sk_session.specs.Moving.{said_now, record_of, record_now, at_after, finish, drops, first_opened, give_up, lose, lose_by, starve, goes_well, closes, heard, hears, say, put_at, put_next, read_now, read_by, read_for, behind_open, answer_in, answer_now, answer_by, rows_come, fault_at_read, commits, end_reply, is_begin, Either}
use Rattle.sk_session.specs.SoFar.{so_far}
use Rattle.sk_session.specs.Printed.{seat_at, seat_inside, seat_outside, seat_after, AddsOne, Adds, IsClear, IsPlain, IsHeard, Hears, IsTold, Ends, Closes, JobFits}
use Rattle.sk_session.proofs.Recorded.{with_last_seam}
use Rattle.sk_session.proofs.Judged.{answer_kept}
use Rattle.sk_session.proofs.Used.{answer_used}

-- ---- where a line leads

inside_plain : (s : Statement) (r : Reply) → IsPlain s → seat_inside (Some s) r ≡ cond (is_lost r) Ended Inside
inside_plain (statement.Begin begun) r plain = absurd cc
inside_plain statement.Commit r plain = absurd cc
inside_plain statement.Rollback r plain = absurd cc
inside_plain (statement.Insert table values) r plain = refl
inside_plain (statement.Select table names e) r plain = refl
inside_plain (statement.Update table sets e) r plain = refl
inside_plain (statement.Delete table e) r plain = refl

outside_plain : (s : Statement) (r : Reply) → IsPlain s → seat_outside (Some s) r ≡ Outside
outside_plain (statement.Begin begun) r plain = absurd cc
outside_plain statement.Commit r plain = refl
outside_plain statement.Rollback r plain = refl
outside_plain (statement.Insert table values) r plain = refl
outside_plain (statement.Select table names e) r plain = refl
outside_plain (statement.Update table sets e) r plain = refl
outside_plain (statement.Delete table e) r plain = refl

outside_begin : (s : Statement) (r : Reply) → is_begin (Some s) ≡ true → seat_outside (Some s) r ≡ cond (is_lost r) Ended Inside
outside_begin (statement.Begin begun) r is = refl
outside_begin _ r is = absurd cc

-- a reply that loses a transaction is one to a line that uses a label
pub lost_used : (r : Reply) → is_lost r ≡ true → (uses_label Outside r ≡ true) × (uses_label Inside r ≡ true)
lost_used (reply.Conflict by why) is = (refl, refl)
lost_used (reply.Recycled point) is = (refl, refl)
lost_used (reply.Old engine snapshot horizon) is = (refl, refl)
lost_used (reply.Refused err.Device) is = (refl, refl)
lost_used (reply.Refused err.Memory) is = (refl, refl)
lost_used _ is = absurd cc

pub adds_used : (seat : Seat) (s : Statement) (r : Reply) (part : List Said) → uses_label seat r ≡ true → part ≡ record { statement = s; reply = r } ∷ [] → Adds seat (Some s) r part
adds_used seat s r part used is = subst (λ b. cond b (AddsOne s r part) (part ≡ [])) (sym used) (inl is)

-- what the end of a transaction adds
adds_now : (seat : Seat) (live : Live) (s : Statement) (r : Reply) → live.statement ≡ Some s → uses_label seat r ≡ true → Adds seat (Some s) r (said_maybe (said_now live.statement r))
adds_now seat live s r is used = adds_used seat s r _ used (ap (λ o. said_maybe (said_now o r)) is)

-- a statement that is lost
pub lost_ends : (seat : Seat) (o : Option Statement) (live : Live) (r : Reply) → Hears seat o live → is_lost r ≡ true → Ends seat o r live (at_after (not live.small))
lost_ends seat o live r (is, h) lost = by seat live.small o is h
  where
    by : (seat : Seat) (small : Bool) (x : Option Statement) → live.statement ≡ x → IsHeard seat small x → Ends seat x r live (at_after (not small))
    by Outside true (Some s) is plain = (adds_now Outside live s r is (lost_used r lost).0, sym (outside_plain s r plain))
    by Outside false (Some s) is begins = (adds_now Outside live s r is (lost_used r lost).0, sym (outside_begin s r begins ∙ ap (λ b. cond b Ended Inside) lost))
    by Inside false (Some s) is plain = (adds_now Inside live s r is (lost_used r lost).1, sym (inside_plain s r plain ∙ ap (λ b. cond b Ended Inside) lost))
    by _ _ _ is h = absurd h

module _ (seat : Seat) (o : Option Statement) (front : List Record) (open_record : Record) where
  -- the last record is that of the transaction
  abbrev pub all : List Record
  all = front ++ open_record ∷ []

  -- it waits for an answer, and has been answered this before
  abbrev pub Waiting : List Said → List Record → At → Type 0
  Waiting said records (at.Asking live doing) = (records ≡ all) × (live.said ≡ said) × JobFits seat o live doing
  Waiting said records _ = ⊥

  -- the line was answered
  pub record Spoke (said : List Said) (records : List Record) (there : At) (r : Reply) : Type 0 where
    pub last : Record
    pub part : List Said
    pub are : so_far records there ≡ front ++ last ∷ []
    pub says : last.said ≡ said ++ part
    pub adds : Adds seat o r part
    pub stands : seat_at there ≡ seat_after seat o r
    pub clear : IsClear records there

  abbrev pub Does : List Said → List Record → At → Turn → Type 0
  Does said records there (turn.Ask w) = Waiting said records there
  Does said records there (turn.Said r) = Spoke said records there r

  abbrev pub Goes : List Said → Moved → Type 0
  Goes said moved = Does said moved.records moved.at moved.turn

  pub either_goes : (said : List Said) (x y moved : Moved) → Either x y moved → Goes said x → Goes said y → Goes said moved
  either_goes said x y moved (inl is) px py = subst (Goes said) (sym is) px
  either_goes said x y moved (inr is) px py = subst (Goes said) (sym is) py

  pub finish_goes : (live : Live) (how : Ending) (r : Reply) (lost : Bool) → Ends seat o r live (at_after lost) → Goes live.said (finish all live how r lost)
  finish_goes live how r true e = record { last = record_of live how r; part = said_maybe (said_now live.statement r); are = with_last_seam front open_record (record_of live how r); says = refl; adds = e.0; stands = e.1; clear = tt }
  finish_goes live how r false e = record { last = record_of live how r; part = said_maybe (said_now live.statement r); are = with_last_seam front open_record (record_of live how r); says = refl; adds = e.0; stands = e.1; clear = tt }

  pub drops_goes : (live : Live) (e : Option EngineName) (how : Ending) (r : Reply) (lost : Bool) → Ends seat o r live (at_after lost) → Goes live.said (drops all live e how r lost)
  drops_goes live None how r lost ends = finish_goes live how r lost ends
  drops_goes live (Some e) how r lost ends = (refl, refl, ends)

  pub give_up_goes : (live : Live) (how : Ending) (r : Reply) (lost : Bool) → Ends seat o r live (at_after lost) → Goes live.said (give_up all live how r lost)
  give_up_goes live how r lost ends = drops_goes live (first_opened live) how r lost ends

  pub lose_goes : (live : Live) (how : Ending) (r : Reply) → Hears seat o live → is_lost r ≡ true → Goes live.said (lose all live how r)
  lose_goes live how r h lost = give_up_goes live how r (not live.small) (lost_ends seat o live r h lost)

  pub starve_goes : (live : Live) → Hears seat o live → Goes live.said (starve all live)
  unfolding starve
  starve_goes live h = lose_goes live _ _ h refl

  -- an engine's fault, which is no read that has to wait
  pub fault_goes : (live : Live) (e : EngineName) (f : EngineFault) → Hears seat o live → IsLoss f → Goes live.said (lose_by all live e f)
  fault_goes live e (fault.Old snapshot horizon) h loss = lose_goes live _ _ h refl
  fault_goes live e (fault.Conflict by why) h loss = lose_goes live _ _ h refl
  fault_goes live e fault.Device h loss = lose_goes live _ _ h refl
  fault_goes live e fault.NoMemory h loss = lose_goes live _ _ h refl
  fault_goes live e (fault.Busy by) h loss = absurd loss

  pub commits_goes : (live : Live) (whole : Bool) (own : Option Reply) → Closes seat o live whole own → Goes live.said (commits all live whole own)
  commits_goes live whole own c = (refl, refl, c)

  -- ---- the statement is answered this

  -- the one statement of a transaction outside of BEGIN
  small_closes : (live : Live) (r : Reply) → Hears seat o live → live.small ≡ true → IsTold seat r → Closes seat o live true (Some r)
  small_closes live r (is, h) small told = ((λ no. absurd cc), λ end. by seat o is (subst (λ b. IsHeard seat b o) small h) told.1 end)
    where
      by : (x : Seat) (q : Option Statement) → live.statement ≡ q → IsHeard x true q → uses_label x r ≡ true → (end : CommitEnd) → Ends x q (end_reply end (Some r)) live at.Outside
      by Outside (Some s) is plain used (Committed mem store) = (adds_now Outside live s r is used, sym (outside_plain s r plain))
      by Outside (Some s) is plain used (CheckFailed point mem store) = (adds_now Outside live s (reply.CheckFailed point mem store) is refl, sym (outside_plain s (reply.CheckFailed point mem store) plain))
      by Outside (Some s) is plain used (Spent engine mem) = (adds_now Outside live s (reply.Spent engine) is refl, sym (outside_plain s (reply.Spent engine) plain))
      by Outside (Some s) is plain used NoMemory = (adds_now Outside live s (reply.Refused err.Memory) is refl, sym (outside_plain s (reply.Refused err.Memory) plain))
      by _ _ is h used end = absurd h

  small_ends : (live : Live) (r : Reply) → Hears seat o live → live.small ≡ true → IsTold seat r → Ends seat o r live at.Outside
  small_ends live r h small told = (small_closes live r h small told).1 (Committed None None)

  closes_goes : (live : Live) (r : Reply) (well : Bool) → Hears seat o live → live.small ≡ true → IsTold seat r → Goes live.said (closes all live r well)
  closes_goes live r true h small told = commits_goes live true (Some r) (small_closes live r h small told)
  closes_goes live r false h small told = give_up_goes live _ r false (small_ends live r h small told)

  -- inside BEGIN
  hears_goes : (live : Live) (r : Reply) → Hears seat o live → live.small ≡ false → IsTold seat r → Goes live.said (hears all live r)
  hears_goes live r (is, h) declared told = record {
    last = record_now (heard live r);
    part = said_maybe (said_now live.statement r);
    are = with_last_seam front open_record (record_now (heard live r));
    says = append-nil (live.said ++ said_maybe (said_now live.statement r));
    adds = (by seat o is (subst (λ b. IsHeard seat b o) declared h) told).0;
    stands = (by seat o is (subst (λ b. IsHeard seat b o) declared h) told).1;
    clear = (refl, declared, (front, open_record, refl));
  }
    where
      by : (x : Seat) (q : Option Statement) → live.statement ≡ q → IsHeard x false q → IsTold x r → Adds x q r (said_maybe (said_now live.statement r)) × (Inside ≡ seat_after x q r)
      by Outside (Some s) is begins t = (adds_now Outside live s r is t.1, sym (outside_begin s r begins ∙ ap (λ b. cond b Ended Inside) t.0))
      by Inside (Some s) is plain t = (adds_now Inside live s r is t.1, sym (inside_plain s r plain ∙ ap (λ b. cond b Ended Inside) t.0))
      by _ _ is h t = absurd h

  by_cond : (said : List Said) (b : Bool) (x y : Moved) → (b ≡ true → Goes said x) → (b ≡ false → Goes said y) → Goes said (cond b x y)
  by_cond said true x y f g = f refl
  by_cond said false x y f g = g refl

  pub say_goes : (live : Live) (r : Reply) → Hears seat o live → IsTold seat r → Goes live.said (say all live r)
  unfolding say
  say_goes live r h told = by_cond live.said live.small (closes all live r (goes_well r)) (hears all live r) (λ small. closes_goes live r (goes_well r) h small told) (λ declared. hears_goes live r h declared told)

  put_at_goes : (live : Live) (e : EngineName) (writes : List Write) (done : ℕ) (r : Reply) → Hears seat o live → IsTold seat r → (w : Option Write) → Goes live.said (put_at all live e writes done r w)
  put_at_goes live e writes done r h told None = say_goes live r h told
  put_at_goes live e writes done r h told (Some w) = (refl, refl, (h, told))

  pub put_next_goes : (live : Live) (e : EngineName) (writes : List Write) (done : ℕ) (r : Reply) → Hears seat o live → IsTold seat r → Goes live.said (put_next all live e writes done r)
  unfolding put_next
  put_next_goes live e writes done r h told = put_at_goes live e writes done r h told (slice_get writes done)

  -- ---- over its table

  read_by_goes : (live : Live) → Hears seat o live → (x : Option (EngineName × ℕ × Option Value)) → Goes live.said (read_by all live x)
  read_by_goes live h None = starve_goes live h
  read_by_goes live h (Some r) = (refl, refl, h)

  pub read_for_goes : (catalog : List Table) (live : Live) → Hears seat o live → Goes live.said (read_for catalog all live)
  read_for_goes catalog live h = read_by_goes live h (read_now catalog live.statement)

  -- what a statement comes to is told
  told_in : (catalog : List Table) (small : Bool) (rows : KeyedRows) (x : Seat) (s : Statement) (t : Option ℕ) (a : Answer) → IsHeard x small (Some s) → table_named catalog s ≡ t → answer_in catalog s rows t ≡ Some a → IsTold x a.0
  told_in catalog true rows Outside s (Some t) a plain named is =
      let e : comes_to (columns_at catalog t) t s rows ≡ a = (cc) in
      subst (λ (y : Answer). IsTold Outside y.0) e (answer_kept (columns_at catalog t) t s rows, (answer_used (columns_at catalog t) t s rows plain).0)
  told_in catalog false rows Outside s (Some t) a begins named is = absurd (no_table s begins named)
    where
      no_table : (y : Statement) → is_begin (Some y) ≡ true → table_named catalog y ≡ Some t → ⊥
      no_table (statement.Begin begun) b n = absurd cc
      no_table _ b n = absurd cc
  told_in catalog false rows Inside s (Some t) a plain named is =
      let e : comes_to (columns_at catalog t) t s rows ≡ a = (cc) in
      subst (λ (y : Answer). IsTold Inside y.0) e (answer_kept (columns_at catalog t) t s rows, (answer_used (columns_at catalog t) t s rows plain).1)
  told_in catalog small rows x s None a h named is = absurd cc
  told_in catalog _ rows _ s t a h named is = absurd h

  told_now : (catalog : List Table) (live : Live) (rows : KeyedRows) (a : Answer) → Hears seat o live → answer_now catalog live.statement rows ≡ Some a → IsTold seat a.0
  told_now catalog live rows a (stands, h) is = by o h (ap (λ x. answer_now catalog x rows) (sym stands) ∙ is)
    where
      by : (q : Option Statement) → IsHeard seat live.small q → answer_now catalog q rows ≡ Some a → IsTold seat a.0
      by None h is = absurd cc
      by (Some s) h is = told_in catalog live.small rows seat s (table_named catalog s) a h refl is

  pub rows_come_goes : (catalog : List Table) (live : Live) (e : EngineName) (rows : KeyedRows) → Hears seat o live → Goes live.said (rows_come catalog all live e rows)
  rows_come_goes catalog live e rows h = by (answer_now catalog live.statement rows) refl
    where
      by : (a : Option Answer) → answer_now catalog live.statement rows ≡ a → Goes live.said (answer_by all live e a)
      by None is = starve_goes live h
      by (Some a) is = put_next_goes live e a.1 0 a.0 h (told_now catalog live rows a h is)

  -- a reply that is told to every line that asks for calls
  told_to : (small : Bool) (q : Option Statement) (r : Reply) (x : Seat) → IsHeard x small q → is_lost r ≡ false → uses_label Outside r ≡ true → uses_label Inside r ≡ true → IsTold x r
  told_to small q r Outside h kept out in_ = (kept, out)
  told_to small q r Inside h kept out in_ = (kept, in_)
  told_to small q r Ended h kept out in_ = absurd h

  pub behind_open_goes : (catalog : List Table) (live : Live) (begins : Bool) → Hears seat o live → Goes live.said (behind_open catalog all live begins)
  behind_open_goes catalog live true h = say_goes live _ h (told_to live.small o (reply.Began live.label) seat h.1 refl refl refl)
  behind_open_goes catalog live false h = read_for_goes catalog live h

  pub fault_at_read_goes : (live : Live) (e : EngineName) (f : EngineFault) → Hears seat o live → Goes live.said (fault_at_read all live e f)
  fault_at_read_goes live e (fault.Busy by) h = say_goes live _ h (told_to live.small o (reply.Busy by) seat h.1 refl refl refl)
  fault_at_read_goes live e (fault.Old snapshot horizon) h = fault_goes live e (fault.Old snapshot horizon) h tt
  fault_at_read_goes live e (fault.Conflict by why) h = fault_goes live e (fault.Conflict by why) h tt
  fault_at_read_goes live e fault.Device h = fault_goes live e fault.Device h tt
  fault_at_read_goes live e fault.NoMemory h = fault_goes live e fault.NoMemory h tt
