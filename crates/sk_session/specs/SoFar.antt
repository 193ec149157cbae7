-- What a session has come to so far.
use Rattle.std.specs.Prelude.{List}
use Rattle.sk_model.specs.declared.record.Record.{Record}
use Rattle.sk_session.specs.declared.live.At.{At}
use Rattle.sk_session.specs.declared.live.At.TheVariants as at
use Rattle.sk_session.specs.declared.session.Session.{Session}
use Rattle.sk_session.specs.Moving.{with_last, record_now}

-- the records, that of a live transaction too as far as it has come, also while it waits for an answer
abbrev pub so_far : List Record → At → List Record
so_far records at.Outside = records
so_far records (at.Inside live) = with_last records (record_now live)
so_far records (at.Stepping live c) = with_last records (record_now live)
so_far records at.Ended = records
so_far records (at.Asking live doing) = with_last records (record_now live)

abbrev pub records_so_far : Session → List Record
records_so_far s = so_far s.records s.at
