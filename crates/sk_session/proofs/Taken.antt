-- An answer to a session keeps the calls of its live transaction.
use Rattle.std.specs.Prelude.{List}
use Rattle.std.proofs.Common.{sym, subst}
use Rattle.sk_rows.specs.declared.table.Table.{Table}
use Rattle.sk_model.specs.declared.record.Record.{Record}
use Rattle.sk_commit.specs.declared.asking.Got.{Got}
use Rattle.sk_session.specs.declared.turn.Turn.{Turn}
use Rattle.sk_session.specs.declared.live.Live.{Live}
use Rattle.sk_session.specs.declared.live.Job.{Job}
use Rattle.sk_session.specs.declared.live.Job.TheVariants as job
use Rattle.sk_session.specs.declared.live.At.{At}
use Rattle.sk_session.specs.declared.live.At.TheVariants as at
use Rattle.sk_session.specs.declared.live.Moved.{Moved}
use Rattle.sk_session.specs.declared.session.Session.{Session}
use Rattle.sk_session.specs.Moving.{GoesAs, TakesAt}
use Rattle.sk_session.specs.Speaks.{Keeps, TakeKept}
use Rattle.sk_session.specs.Starting.{Takes, moved_to}
use Rattle.sk_session.proofs.Keeping.{take_commit, take_leave}
use Rattle.sk_session.proofs.Going.{take_waits}

goes_keep : (catalog : List Table) (records : List Record) (live : Live) (doing : Job) (got : Got) (moved : Moved) → GoesAs catalog records live doing got moved → TakeKept catalog records (at.Asking live doing) got moved
goes_keep catalog records live (job.Commit c whole own) got moved is = λ talk speaks fits. subst (Keeps catalog records live.label _) (sym is) (take_commit catalog records live c whole own talk got speaks.0 speaks.1 fits)
goes_keep catalog records live (job.Leave e how r lost) got moved is = λ talk leaves fits. subst (Keeps catalog records live.label _) (sym is) (take_leave catalog records live e how r lost talk got leaves fits)
goes_keep catalog records live job.Count got moved is = λ talk waits fits. take_waits catalog records live job.Count talk got moved waits fits is
goes_keep catalog records live (job.Open e n) got moved is = λ talk waits fits. take_waits catalog records live (job.Open e n) talk got moved waits fits is
goes_keep catalog records live job.Select got moved is = λ talk waits fits. take_waits catalog records live job.Select talk got moved waits fits is
goes_keep catalog records live (job.Read e t key) got moved is = λ talk waits fits. take_waits catalog records live (job.Read e t key) talk got moved waits fits is
goes_keep catalog records live (job.Put e writes done r) got moved is = λ talk waits fits. take_waits catalog records live (job.Put e writes done r) talk got moved waits fits is

at_keep : (catalog : List Table) (records : List Record) (there : At) (got : Got) (moved : Moved) → TakesAt catalog records there got moved → TakeKept catalog records there got moved
at_keep catalog records (at.Asking live doing) got moved is = goes_keep catalog records live doing got moved is
at_keep catalog records _ got moved is = tt

pub takes_keep : (catalog : List Table) (old : Session) (got : Got) (new : Session) (turn : Turn) → Takes catalog old got new turn → TakeKept catalog old.records old.at got (moved_to new turn)
takes_keep catalog old got new turn t = at_keep catalog old.records old.at got (moved_to new turn) t.moves
