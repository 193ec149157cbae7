-- The text of the first field that is wrong.
use Rattle.std.specs.String.{string_bytes}
use Rattle.sk_serial.specs.Printing.{damaged_text}
use Rattle.sk_serial.proofs.Printed.{is_made}
use Rattle.sk_serial.proofs.refusing.refused.Goals as goal

pub returns-in-Damaged : goal.returns-in-Damaged
returns-in-Damaged g c = rw c.in-Damaged.is (is_made string_bytes c.damaged_text.result (damaged_text c.in-Damaged.file c.in-Damaged.place c.in-Damaged.what) 7 _ _ _ _ _ c.damaged_text.ensures c.print_made-in-Damaged.ensures.made c.print_made-in-Damaged.ensures.none)
