use Rattle.sk_script.proofs.Cuts.{piece_at}
use Rattle.sk_script.proofs.reading.split_line.Goals as goal

pub returns-then-end-bytes-clause-cut : goal.returns-then-end-bytes-clause-cut
returns-then-end-bytes-clause-cut c = piece_at c.args.bytes.now c.line_len-end.result c.line_len-end.ensures.value c.if-end-bytes.true
