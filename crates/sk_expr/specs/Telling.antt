-- One reply of a record.
use Rattle.std.specs.Prelude.{◌≡◌, List, Some, cond}
use Rattle.sk_rows.specs.declared.table.Table.{Table}
use Rattle.sk_model.specs.declared.record.Said.{Said}
use Rattle.sk_model.specs.Database.{Tables}
use Rattle.sk_model.specs.Replies.{is_judged, reply_of}

-- the reply is the one of the database that stands at db, where the database gives it
abbrev pub IsTold : List Table → Tables → Said → Type 0
IsTold catalog db s = cond (is_judged s.reply) (reply_of catalog db s.statement ≡ Some s.reply) (Unit {0})
