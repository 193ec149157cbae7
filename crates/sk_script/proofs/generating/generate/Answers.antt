-- The script that was made can be played.
use Rattle.std.proofs.Common.{◌≡◌, [], map, true}
use Rattle.std.specs.Prelude.{IfSome}
use Rattle.std.specs.List.{AllByRecursion}
use Rattle.sk_script.specs.Options.{CanSet}
use Rattle.sk_script.specs.Rules.{IsSession, session_in}
use Rattle.sk_script.specs.Tables.{CanAdd}
use Rattle.sk_script.specs.Texts.{says_short}
use Rattle.sk_script.proofs.Playable.{generated_tables, generated_options, generated_sessions, generated_texts, if_made}
use Rattle.sk_script.proofs.generating.generate.Goals as goal

pub returns-clause-tables : goal.returns-clause-tables
returns-clause-tables c = if_made (λ s. CanAdd [] (map (λ l. l.table) s.tables)) c.args.seed c.args.n c.made.result (generated_tables c.args.seed c.args.n) c.made.ensures

pub returns-clause-options : goal.returns-clause-options
returns-clause-options c = if_made (λ s. CanSet [] s.options) c.args.seed c.args.n c.made.result (generated_options c.args.seed c.args.n) c.made.ensures

pub returns-clause-sessions : goal.returns-clause-sessions
returns-clause-sessions c = if_made (λ s. AllByRecursion (λ l. IfSome (session_in l.what) IsSession) s.lines) c.args.seed c.args.n c.made.result (generated_sessions c.args.seed c.args.n) c.made.ensures

pub returns-clause-texts : goal.returns-clause-texts
returns-clause-texts c = if_made (λ s. AllByRecursion (λ l. says_short l.what ≡ true) s.lines) c.args.seed c.args.n c.made.result (generated_texts c.args.seed c.args.n) c.made.ensures
