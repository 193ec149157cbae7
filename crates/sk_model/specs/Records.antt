-- What a record of a transaction promises against the list of commits.
use Rattle.std.specs.Prelude.{◌≡◌, ℕ, ◌-◌, ◌<◌, ◌≤◌, List, [], ◌∷◌, ◌++◌, Option, Some, None, Bool, true, false, cond, ◌==◌, ◌&&◌, map, take, drop, position, is_some, IfSome}
use Rattle.std.specs.List.{filter, list_any, AllByRecursion, IsDistinct}
use Rattle.std.specs.List.Sorted.{IsPermutation}
use Rattle.sk_rows.specs.declared.table.Table.{Table}
use Rattle.sk_model.specs.declared.label.Label.{Label}
use Rattle.sk_model.specs.declared.commit.Write.{Write}
use Rattle.sk_model.specs.declared.commit.Commit.{Commit}
use Rattle.sk_model.specs.declared.record.Said.{Said}
use Rattle.sk_model.specs.declared.record.Record.{Record}
use Rattle.sk_model.specs.declared.record.Ending.{Ending}
use Rattle.sk_model.specs.declared.record.Ending.TheVariants as ending
use Rattle.sk_model.specs.Database.{Tables, hits, after_writes, state, net}
use Rattle.sk_model.specs.Numbers.{Rises}
use Rattle.sk_model.specs.Places.{place}
use Rattle.sk_model.specs.Replies.{reply_of, writes_of, is_judged, is_count}

-- the writes of a statement with its reply: a count alone tells that it wrote
abbrev pub writes_said : List Table → Tables → Said → List Write
writes_said catalog db s = cond (is_count s.reply) (writes_of catalog db s.statement) []

abbrev pub after_said : List Table → Tables → Said → Tables
after_said catalog db s = after_writes db (writes_said catalog db s)

-- these replies are those of one database that begins as db, one statement after another
abbrev pub Told : List Table → Tables → List Said → Type 0
Told catalog db [] = Unit {0}
Told catalog db (s ∷ rest) =
    cond (is_judged s.reply) (reply_of catalog db s.statement ≡ Some s.reply) (Unit {0})
    × Told catalog (after_said catalog db s) rest

-- all writes of these statements, where the database begins as db
abbrev pub written : List Table → Tables → List Said → List Write
written catalog db [] = []
written catalog db (s ∷ rest) = writes_said catalog db s ++ written catalog (after_said catalog db s) rest

-- each reply of the database is the one that the first p commits with the record's own writes give
abbrev pub Explained : List Table → Tables → List Commit → ℕ → Record → Type 0
Explained catalog opening order p r = Told catalog (state opening (take p order)) r.said

-- the commit writes a row that these writes write too
abbrev pub clashes : List Write → Commit → Bool
clashes ws c = list_any (λ w. list_any (λ v. hits v.table v.key w) ws) c.writes

-- no commit from p up to and without q writes a row that these writes write
abbrev pub FirstWins : List Commit → ℕ → ℕ → List Write → Type 0
FirstWins order p q ws = AllByRecursion (λ c. clashes ws c ≡ false) (take (q - p) (drop p order))

-- a number, where there is one, is at most s
abbrev pub AtMost : Option ℕ → ℕ → Type 0
AtMost None s = Unit {0}
AtMost (Some n) s = n ≤ s

-- a later snapshot of one engine, where there is one, is at least the earlier one and the number that was drawn with it
abbrev pub IsLater : Option ℕ → Option ℕ → Option ℕ → Type 0
IsLater snapshot drawn None = Unit {0}
IsLater snapshot drawn (Some s) = AtMost snapshot s × AtMost drawn s

-- where r and s are of one session and s is the later, s reads what r read and what r committed
abbrev pub Follows : Record → Record → Type 0
Follows r s = r.label.session ≡ s.label.session → r.label.k < s.label.k
    → IsLater r.mem r.drew_mem s.mem × IsLater r.store r.drew_store s.store

-- no session goes back
abbrev pub Fresh : List Record → Type 0
Fresh records = AllByRecursion (λ r. AllByRecursion (Follows r) records) records

abbrev pub is_committed : Ending → Bool
is_committed ending.Committed = true
is_committed _ = false

abbrev pub some_writes : List Write → Bool
some_writes [] = false
some_writes (w ∷ ws) = true

abbrev pub committed_as : Record → List Write → List Commit
committed_as r ws =
    cond (is_committed r.ending && some_writes ws) (record { label = r.label; mem = r.drew_mem; store = r.drew_store; writes = ws } ∷ []) []

-- what a record adds to the list: where it committed and wrote, one commit with its label, its numbers and what its writes come to
abbrev pub commits_of : List Table → Tables → List Commit → ℕ → Record → List Commit
commits_of catalog opening order p r = committed_as r (net (written catalog (state opening (take p order)) r.said))

abbrev pub same_label : Label → Label → Bool
same_label x y = (x.session == y.session) && (x.k == y.k)

-- where the commit of this label stands in the list, counted from 0
abbrev pub own_place : List Commit → Label → Option ℕ
own_place order label = position (λ c. same_label c.label label) order

-- where the record's commit stands in the list, nothing between the prefix that it read and that place wrote a row that it wrote
abbrev pub WinsFirst : List Table → Tables → List Commit → ℕ → Record → Type 0
WinsFirst catalog opening order p r =
    IfSome (own_place order r.label) (λ q. (p ≤ q) × FirstWins order p q (written catalog (state opening (take p order)) r.said))

-- one place a record, and this holds of each record at its place
abbrev pub EachAt : (ℕ → Record → Type 0) → List ℕ → List Record → Type 0
EachAt P [] [] = Unit {0}
EachAt P [] (r ∷ rs) = ⊥
EachAt P (p ∷ ps) [] = ⊥
EachAt P (p ∷ ps) (r ∷ rs) = P p r × EachAt P ps rs

-- what all records add to the list, each at its place
abbrev pub all_commits : List Table → Tables → List Commit → List ℕ → List Record → List Commit
all_commits catalog opening order [] rs = []
all_commits catalog opening order (p ∷ ps) [] = []
all_commits catalog opening order (p ∷ ps) (r ∷ rs) = commits_of catalog opening order p r ++ all_commits catalog opening order ps rs

-- the record's place is that of its snapshots: the length of the shortest prefix that holds what they see
abbrev pub ReadsAt : List Commit → ℕ → Record → Type 0
ReadsAt order p r = p ≡ place order r.mem r.store

-- no two commits have one label
abbrev pub Unlike : List Commit → Type 0
Unlike order = IsDistinct same_label (map (λ c. c.label) order)

-- the numbers of one engine rise strictly along the list
abbrev pub InTurn : (Commit → Option ℕ) → List Commit → Type 0
InTurn number order = Rises number 0 (filter (λ c. is_some (number c)) order)

-- The promise: these records are of one database with this list of commits, whatever the order in which they began and ended.
pub record OneDatabase (catalog : List Table) (opening : Tables) (order : List Commit) (places : List ℕ) (records : List Record) : Type 0 where
  -- each record reads one prefix of the list, that of its snapshots, with its own writes
  pub explained : EachAt (Explained catalog opening order) places records
  pub placed : EachAt (ReadsAt order) places records
  -- the list has exactly what committed and wrote, each once, with the numbers that it drew
  pub listed : IsPermutation (all_commits catalog opening order places records) order
  pub unlike : Unlike order
  -- it goes by the numbers of each engine
  pub by_mem : InTurn (λ c. c.mem) order
  pub by_store : InTurn (λ c. c.store) order
  -- the first committer wins, and no session goes back
  pub first_wins : EachAt (WinsFirst catalog opening order) places records
  pub fresh : Fresh records
