-- A statement inside a transaction, and one with which a transaction begins: what is asked for first is what the statement asks for.
use Rattle.std.specs.Prelude.{◌≡◌, ℕ, List, [], ◌∷◌, Option, Some, None, Bool, true, false, cond, if◌then◌else◌, is_some, Ok, Err}
use Rattle.std.proofs.Common.{refl, sym, ap, subst, ◌∙◌, inl, inr, append-nil}
use Rattle.sk_rows.specs.declared.table.Table.{Table}
use Rattle.sk_rows.specs.declared.statement.Statement.{Statement}
use Rattle.sk_rows.specs.declared.statement.Statement.TheVariants as statement
use Rattle.sk_model.specs.declared.label.Label.{Label}
use Rattle.sk_model.specs.declared.engine.EngineName.{EngineName}
use Rattle.sk_model.specs.declared.engine.EngineName.TheVariants.{Mem, Store}
use Rattle.sk_model.specs.declared.record.Record.{Record}
use Rattle.sk_model.specs.declared.record.TxKind.{TxKind}
use Rattle.sk_model.specs.declared.record.TxKind.TheVariants as kind
use Rattle.sk_model.specs.declared.reply.Reply.{Reply}
use Rattle.sk_model.specs.declared.reply.Reply.TheVariants as reply
use Rattle.sk_model.specs.declared.reply.ErrWord.{ErrWord}
use Rattle.sk_model.specs.declared.reply.ErrWord.TheVariants as err
use Rattle.sk_model.specs.declared.call.EngineReply.{EngineReply}
use Rattle.sk_model.specs.declared.call.EngineReply.TheVariants as answer
use Rattle.sk_model.specs.Names.{columns_at}
use Rattle.sk_model.specs.Replies.{comes_to, key_read, refusal_in}
use Rattle.sk_model.specs.Spoken.{is_lost}
use Rattle.sk_model.specs.Talks.{Talk, opened}
use Rattle.sk_model.specs.Asking.{keeper, may_use, first_engine, table_named, Rest, Answers, IfDone, Opens, Reads, Makes, Works, AsksAt, AsksOf, Asked}
use Rattle.sk_model.specs.RecordTalks.{is_end}
use Rattle.sk_session.specs.declared.live.Live.{Live}
use Rattle.sk_session.specs.declared.live.Moved.{Moved}
use Rattle.sk_session.specs.Moving.{snapshot_of, Either, is_begin, begun, begins, engine_kind, judged_in, judged_at, judged_outside_in, judged_outside_at, judged_outside, inside_by, inside, open_or_read, ask_select, say, starve, says}
use Rattle.sk_session.specs.Speaks.{ReadsOf, Behind, Knows, IsOpen, Stands, Answering, Uses, BegunAt, Keeps}
use Rattle.sk_session.proofs.Judged.{word_kept}
use Rattle.sk_session.proofs.Waiting.{goes_on_so}
use Rattle.sk_session.proofs.GivenUp.{knows_still}
use Rattle.sk_session.proofs.Saying.{starve_keeps, say_or_starve}
use Rattle.sk_session.proofs.Going.{either_keeps, names_no_begin, reads_keep}

-- ---- what a statement asks for

-- a call that is done goes on in another way
done_map : (e : EngineName) (A B : Rest) (x : EngineReply) (calls : Talk) (r : Reply) → ((calls : Talk) (r : Reply) → A calls r → B calls r) → IfDone e A x calls r → IfDone e B x calls r
done_map e A B answer.Done calls r f h = f calls r h
done_map e A B (answer.Fault fault) calls r f h = h
done_map e A B _ calls r f h = absurd h

opens_map : (tx : Label) (e : EngineName) (anchor snapshot : Option ℕ) (A B : Rest) (calls : Talk) (r : Reply) → ((calls : Talk) (r : Reply) → A calls r → B calls r) → Opens tx e anchor snapshot A calls r → Opens tx e anchor snapshot B calls r
opens_map tx e anchor (Some s) A B calls r f h = f calls r h
opens_map tx e anchor None A B [] r f h = h
opens_map tx e anchor None A B (c ∷ calls) r f h = (h.0, done_map e A B c.entry.reply calls r f h.1)

abbrev ReadsIt : List Table → Label → Statement → ℕ → Rest
ReadsIt catalog tx s t = Reads tx (keeper catalog t) t (key_read (columns_at catalog t) s) (λ rows. Makes tx (keeper catalog t) (comes_to (columns_at catalog t) t s rows))

-- behind the opening the table is read
behind_reads : (catalog : List Table) (tx : Label) (s : Statement) (t : ℕ) → table_named catalog s ≡ Some t → (calls : Talk) (r : Reply) → Behind catalog tx s calls r → ReadsIt catalog tx s t calls r
behind_reads catalog tx s t named calls r h = subst (λ o. ReadsOf catalog tx s o calls r) named (by s (names_no_begin catalog s t named) h)
  where
    by : (x : Statement) → is_begin (Some x) ≡ false → Behind catalog tx x calls r → ReadsOf catalog tx x (table_named catalog x) calls r
    by (statement.Begin begun) plain h = absurd cc
    by statement.Commit plain h = h
    by statement.Rollback plain h = h
    by (statement.Insert table values) plain h = h
    by (statement.Select table names e) plain h = h
    by (statement.Update table sets e) plain h = h
    by (statement.Delete table e) plain h = h

-- a statement that a table answers asks for what its table's statement does
asks_of : (catalog : List Table) (tx : Label) (kind : TxKind) (before : Talk) (s : Statement) (calls : Talk) (r : Reply) → is_begin (Some s) ≡ false → is_end s ≡ false → AsksOf catalog tx kind before s (table_named catalog s) calls r → Asked catalog tx kind before s calls r
asks_of catalog tx kind before (statement.Begin begun) calls r plain goes h = absurd cc
asks_of catalog tx kind before statement.Commit calls r plain goes h = absurd cc
asks_of catalog tx kind before statement.Rollback calls r plain goes h = absurd cc
asks_of catalog tx kind before (statement.Insert table values) calls r plain goes h = inr h
asks_of catalog tx kind before (statement.Select table names e) calls r plain goes h = inr h
asks_of catalog tx kind before (statement.Update table sets e) calls r plain goes h = inr h
asks_of catalog tx kind before (statement.Delete table e) calls r plain goes h = inr h

asks_starve : (catalog : List Table) (tx : Label) (kind : TxKind) (before : Talk) (s : Statement) → is_begin (Some s) ≡ false → is_end s ≡ false → Asked catalog tx kind before s [] (reply.Refused err.Memory)
asks_starve catalog tx kind before (statement.Begin begun) plain goes = absurd cc
asks_starve catalog tx kind before statement.Commit plain goes = absurd cc
asks_starve catalog tx kind before statement.Rollback plain goes = absurd cc
asks_starve catalog tx kind before (statement.Insert table values) plain goes = inl (refl, refl)
asks_starve catalog tx kind before (statement.Select table names e) plain goes = inl (refl, refl)
asks_starve catalog tx kind before (statement.Update table sets e) plain goes = inl (refl, refl)
asks_starve catalog tx kind before (statement.Delete table e) plain goes = inl (refl, refl)

-- where nothing refuses the statement, its engine is opened and its table is read
works_at : (catalog : List Table) (tx : Label) (kind : TxKind) (before : Talk) (s : Statement) (t : ℕ) (calls : Talk) (r : Reply) → table_named catalog s ≡ Some t → is_end s ≡ false → refusal_in (columns_at catalog t) s ≡ None → may_use kind (keeper catalog t) ≡ true
    → Opens tx (keeper catalog t) (opened Mem before) (opened (keeper catalog t) before) (Behind catalog tx s) calls r → Asked catalog tx kind before s calls r
works_at catalog tx kind before s t calls r named goes unrefused usable h =
    asks_of catalog tx kind before s calls r (names_no_begin catalog s t named) goes
    (subst (λ o. AsksOf catalog tx kind before s o calls r) (sym named)
    (subst (λ w. AsksAt catalog tx kind before s t w calls r) (sym unrefused)
    (subst (λ b. cond b (Works catalog tx (opened Mem before) (opened (keeper catalog t) before) s t calls r) (Answers (reply.Refused err.Engine) calls r)) (sym usable)
    (opens_map tx (keeper catalog t) (opened Mem before) (opened (keeper catalog t) before) (Behind catalog tx s) (ReadsIt catalog tx s t) calls r (λ cs x b. behind_reads catalog tx s t named cs x b) h))))

-- ---- inside a transaction

-- an engine that is to be opened by a statement inside BEGIN is the storage engine, and then the memory engine is open
pub only_store : (live : Live) (k : TxKind) (e : EngineName) → may_use k e ≡ true → IsOpen live (first_engine k) → snapshot_of live e ≡ None → (Store ≡ e) × (is_some live.mem ≡ true)
only_store live kind.Cross Mem usable first none = let no : is_some live.mem ≡ false = ap is_some none in absurd (cc (first, no))
only_store live kind.Cross Store usable first none = (refl, first)
only_store live kind.Mem Mem usable first none = let no : is_some live.mem ≡ false = ap is_some none in absurd (cc (first, no))
only_store live kind.Mem Store usable first none = absurd cc
only_store live kind.Store Mem usable first none = absurd cc
only_store live kind.Store Store usable first none = let no : is_some live.store ≡ false = ap is_some none in absurd (cc (first, no))

opened_is : (live : Live) (talk : Talk) (e : EngineName) → Knows live talk → opened e talk ≡ snapshot_of live e
opened_is live talk Mem k = sym k.mem
opened_is live talk Store k = sym k.store

first_says : (live : Live) (s : Statement) (e : EngineName) → IsOpen live e → IsOpen (says live s) e
first_says live s Mem is = is
first_says live s Store is = is

module _ (catalog : List Table) (records : List Record) (live : Live) (s : Statement) (talk : Talk) (stands : Stands catalog live talk) (goes : is_end s ≡ false) (plain : is_begin (Some s) ≡ false) where
  abbrev said_to : Live
  said_to = says live s

  abbrev AsksIt : Rest
  AsksIt = Asked catalog live.label live.kind talk s

  first_open : IsOpen said_to (first_engine live.kind)
  first_open = first_says live s (first_engine live.kind) stands.first

  begins_to_answer : Answering catalog said_to s AsksIt talk
  begins_to_answer = record {
    knows = knows_still live talk (Some s) stands.knows;
    before = talk;
    part = [];
    talk_is = sym (append-nil talk);
    statement_is = refl;
    goes_on = goes;
    said = stands.said;
    going = stands.going;
    alone = λ small. let no : live.small ≡ false = stands.declared in absurd (cc (small, no));
    first = λ declared p. first_open;
    whole = λ calls r h. h;
  }

  -- it is refused
  refused_keeps : (word : ErrWord) (moved : Moved) → is_lost (reply.Refused word) ≡ false → AsksOf catalog live.label live.kind talk s (table_named catalog s) [] (reply.Refused word) → Either (say records said_to (reply.Refused word)) (starve records said_to) moved → Keeps catalog records live.label talk moved
  refused_keeps word moved kept h is =
      say_or_starve catalog records said_to s AsksIt talk (first_engine live.kind) (reply.Refused word) moved is begins_to_answer first_open (λ declared. first_open) kept
      (asks_of catalog live.label live.kind talk s [] (reply.Refused word) plain goes h) (asks_starve catalog live.label live.kind talk s plain goes)

  module _ (t : ℕ) (moved : Moved) (named : table_named catalog s ≡ Some t) where
    -- its engine is opened where it is not open yet, or its table is read
    opens_or_reads : (o : Option ℕ) → snapshot_of said_to (keeper catalog t) ≡ o → refusal_in (columns_at catalog t) s ≡ None → may_use live.kind (keeper catalog t) ≡ true → Either (open_or_read catalog records said_to o) (starve records said_to) moved → Keeps catalog records live.label talk moved
    opens_or_reads (Some n) at unrefused usable is =
        reads_keep catalog records said_to s talk t moved
        (goes_on_so catalog said_to s AsksIt (Behind catalog live.label s) talk begins_to_answer (λ calls r h.
        works_at catalog live.label live.kind talk s t calls r named goes unrefused usable
        (subst (λ o. Opens live.label (keeper catalog t) (opened Mem talk) o (Behind catalog live.label s) calls r) (sym (opened_is said_to talk (keeper catalog t) begins_to_answer.knows ∙ at)) h)))
        named (ap is_some at) is
    opens_or_reads None at unrefused usable is =
        let only : (Store ≡ keeper catalog t) × (is_some live.mem ≡ true) = only_store said_to live.kind (keeper catalog t) usable first_open at in
        either_keeps (Keeps catalog records live.label talk) (ask_select records said_to) (starve records said_to) moved is (
          refl,
          refl,
          record {
            now = s;
            answering = goes_on_so catalog said_to s AsksIt (Opens live.label Store live.mem None (Behind catalog live.label s)) talk begins_to_answer (λ calls r h.
                works_at catalog live.label live.kind talk s t calls r named goes unrefused usable
                (subst (λ o. Opens live.label (keeper catalog t) (opened Mem talk) o (Behind catalog live.label s) calls r) (sym (opened_is said_to talk (keeper catalog t) begins_to_answer.knows ∙ at))
                (subst (λ m. Opens live.label (keeper catalog t) m None (Behind catalog live.label s) calls r) stands.knows.mem
                (subst (λ e. Opens live.label e live.mem None (Behind catalog live.label s) calls r) only.0 h))));
            knows = (subst (λ e. snapshot_of said_to e ≡ None) (sym only.0) at, only.1, uses s plain goes (t, named, sym only.0));
          },
          refl,
        )
        (starve_keeps catalog records said_to s AsksIt talk begins_to_answer (asks_starve catalog live.label live.kind talk s plain goes))
      where
        uses : (x : Statement) → is_begin (Some x) ≡ false → is_end x ≡ false → (n : ℕ) × (table_named catalog x ≡ Some n) × (keeper catalog n ≡ Store) → Uses catalog live.kind x Store
        uses (statement.Begin begun) p g u = absurd cc
        uses statement.Commit p g u = u
        uses statement.Rollback p g u = u
        uses (statement.Insert table values) p g u = u
        uses (statement.Select table names e) p g u = u
        uses (statement.Update table sets e) p g u = u
        uses (statement.Delete table e) p g u = u

    by_use : (b : Bool) → may_use live.kind (keeper catalog t) ≡ b → refusal_in (columns_at catalog t) s ≡ None
        → Either (inside_by catalog records said_to (if b then Ok (keeper catalog t) else Err err.Engine)) (starve records said_to) moved → Keeps catalog records live.label talk moved
    by_use true usable unrefused is = opens_or_reads (snapshot_of said_to (keeper catalog t)) refl unrefused usable is
    by_use false unusable unrefused is =
        refused_keeps err.Engine moved refl
        (subst (λ o. AsksOf catalog live.label live.kind talk s o [] (reply.Refused err.Engine)) (sym named)
        (subst (λ w. AsksAt catalog live.label live.kind talk s t w [] (reply.Refused err.Engine)) (sym unrefused)
        (subst (λ b. cond b (Works catalog live.label (opened Mem talk) (opened (keeper catalog t) talk) s t [] (reply.Refused err.Engine)) (Answers (reply.Refused err.Engine) [] (reply.Refused err.Engine))) (sym unusable) (refl, inl refl)))) is

    by_words : (w : Option ErrWord) → refusal_in (columns_at catalog t) s ≡ w → Either (inside_by catalog records said_to (judged_at catalog live.kind t w)) (starve records said_to) moved → Keeps catalog records live.label talk moved
    by_words (Some word) refused is =
        refused_keeps word moved (word_kept (columns_at catalog t) s word refused)
        (subst (λ o. AsksOf catalog live.label live.kind talk s o [] (reply.Refused word)) (sym named)
        (subst (λ w. AsksAt catalog live.label live.kind talk s t w [] (reply.Refused word)) (sym refused) (refl, inl refl))) is
    by_words None unrefused is = by_use (may_use live.kind (keeper catalog t)) refl unrefused is

  by_table : (o : Option ℕ) (moved : Moved) → table_named catalog s ≡ o → Either (inside_by catalog records said_to (judged_in catalog live.kind s o)) (starve records said_to) moved → Keeps catalog records live.label talk moved
  by_table None moved unnamed is = refused_keeps err.Table moved refl (subst (λ o. AsksOf catalog live.label live.kind talk s o [] (reply.Refused err.Table)) (sym unnamed) (refl, inl refl)) is
  by_table (Some t) moved named is = by_words t moved named (refusal_in (columns_at catalog t) s) refl is

  -- a statement that a table answers
  pub inside_keeps : (moved : Moved) → Either (inside catalog records said_to) (starve records said_to) moved → Keeps catalog records live.label talk moved
  inside_keeps moved is = by_table (table_named catalog s) moved refl is

-- ---- a transaction begins

begun_knows : (label : Label) (kind : TxKind) (small : Bool) (s : Statement) → Knows (begun label kind small s) []
begun_knows label kind small s = record {
  mem = refl;
  store = refl;
  wrote_mem = refl;
  wrote_store = refl;
  mem_undrawn = refl;
  store_undrawn = refl;
  unpassed = refl;
  selection = tt;
  mem_first = λ e. absurd cc;
  store_first = λ e. absurd cc;
}

pub begins_keep : (catalog : List Table) (records : List Record) (label : Label) (kind : TxKind) (small : Bool) (s : Statement) → is_end s ≡ false → (small ≡ false → is_begin (Some s) ≡ false → ⊥) → Uses catalog kind s (first_engine kind)
    → ((calls : Talk) (r : Reply) → Opens label (first_engine kind) None None (Behind catalog label s) calls r → Asked catalog label kind [] s calls r)
    → BegunAt catalog records label (begins records label kind small s) (begins records label kind small s).at
unfolding begins
begins_keep catalog records label kind small s goes never uses whole = (
  refl,
  refl,
  record {
    now = s;
    answering = record {
      knows = begun_knows label kind small s;
      before = [];
      part = [];
      talk_is = refl;
      statement_is = refl;
      goes_on = goes;
      said = refl;
      going = tt;
      alone = λ x. refl;
      first = λ declared plain. absurd (never declared plain);
      whole = whole;
    };
    knows = (refl, refl, uses);
  },
  refl,
)

first_is : (e : EngineName) → first_engine (engine_kind e) ≡ e
first_is Mem = refl
first_is Store = refl

may_use_own : (e : EngineName) → may_use (engine_kind e) e ≡ true
may_use_own Mem = refl
may_use_own Store = refl

none_opened : (e : EngineName) → opened e [] ≡ None
none_opened e = refl

-- a statement outside a transaction that nothing refuses
abbrev Judges : List Table → Statement → EngineName → Type 0
Judges catalog s e = (t : ℕ) × (table_named catalog s ≡ Some t) × (refusal_in (columns_at catalog t) s ≡ None) × (keeper catalog t ≡ e)

pub judges : (catalog : List Table) (s : Statement) (e : EngineName) → judged_outside catalog s ≡ Ok e → Judges catalog s e
judges catalog s e is = by_table (table_named catalog s) refl is
  where
    by_words : (t : ℕ) (w : Option ErrWord) → table_named catalog s ≡ Some t → refusal_in (columns_at catalog t) s ≡ w → judged_outside_at catalog t w ≡ Ok e → Judges catalog s e
    by_words t (Some word) named refused is = absurd cc
    by_words t None named unrefused is = (t, named, unrefused, cc)

    by_table : (o : Option ℕ) → table_named catalog s ≡ o → judged_outside_in catalog s o ≡ Ok e → Judges catalog s e
    by_table None unnamed is = absurd cc
    by_table (Some t) named is = by_words t (refusal_in (columns_at catalog t) s) named refl is

pub small_keeps : (catalog : List Table) (records : List Record) (label : Label) (s : Statement) (e : EngineName) → is_end s ≡ false → is_begin (Some s) ≡ false → Judges catalog s e
    → BegunAt catalog records label (begins records label (engine_kind e) true s) (begins records label (engine_kind e) true s).at
small_keeps catalog records label s e goes plain (t, named, unrefused, kept) =
    begins_keep catalog records label (engine_kind e) true s goes (λ declared p. absurd cc) (uses s plain (t, named, kept ∙ sym (first_is e)))
    (λ calls r h. works_at catalog label (engine_kind e) [] s t calls r named goes unrefused (subst (λ x. may_use (engine_kind e) x ≡ true) (sym kept) (may_use_own e))
    (subst (λ x. Opens label x None None (Behind catalog label s) calls r) (first_is e ∙ sym kept) h))
  where
    uses : (x : Statement) → is_begin (Some x) ≡ false → (n : ℕ) × (table_named catalog x ≡ Some n) × (keeper catalog n ≡ first_engine (engine_kind e)) → Uses catalog (engine_kind e) x (first_engine (engine_kind e))
    uses (statement.Begin begun) p u = absurd cc
    uses statement.Commit p u = u
    uses statement.Rollback p u = u
    uses (statement.Insert table values) p u = u
    uses (statement.Select table names c) p u = u
    uses (statement.Update table sets c) p u = u
    uses (statement.Delete table c) p u = u
