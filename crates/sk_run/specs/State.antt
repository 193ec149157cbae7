-- A run: its tables, its sessions by number, and what they share.
use Rattle.std.specs.Prelude.{List}
use Rattle.sk_rows.specs.declared.table.Table.{Table}
use Rattle.sk_session.specs.declared.session.Session.{Session}
use Rattle.sk_shared.specs.declared.shared.Shared.{Shared}

pub record RunState : Type 0 where
  pub catalog : List Table
  pub sessions : List Session
  pub shared : Shared
