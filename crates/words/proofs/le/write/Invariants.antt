-- `words::le::write` meets its contract. The loop's invariant: the writes that are left, on the part as it is, give what all of them give on the part
-- as it came. Assumes nothing.
use Rattle.std.proofs.Common.{◌≡◌, ◌-◌}
use lib.Seq.{sets}
use Rattle.spec.specs.Layout.{bytes_of}
use Rattle.words.proofs.le.write.Given as goal

abbrev pub invariant-loop-byte : goal.invariant-loop-byte
invariant-loop-byte l = sets l.byte-items l.byte-index (bytes_of (l.w - l.byte-index) l.rest) ≡ sets l.initial.byte-items 0 (bytes_of l.w l.n)
