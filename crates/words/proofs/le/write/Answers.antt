use Rattle.std.proofs.Common.{◌+◌, ◌-◌, ◌≡◌, ◌∙◌, arith}
use Rattle.spec.specs.Layout.{bytes_of}
use Rattle.spec.specs.Reading.{part}
use Rattle.spec.proofs.Bytes.{length_bytes, length_part}
use Rattle.words.proofs.LeLaws.{write_turn}
use Rattle.words.proofs.StoreLaws.{part_back, sets_whole}
use Rattle.words.proofs.le.write.Goals as goal

pub loop-byte-preserved : goal.loop-byte-preserved
loop-byte-preserved c =
    let l = c.loop-byte in
    write_turn l.byte-items _ c.args.w l.byte-index l.rest (omega arith) l.invariant

pub returns : goal.returns
unfolding bytes_of part
returns c =
    let a = c.args in
    let l = c.loop-byte in
    let wide : a.i + a.w - a.i ≡ a.w = omega arith in
    let long = length_part a.i (a.i + a.w) a.d.now (omega arith) c.requires ∙ wide in
    let done : a.w - l.byte-index ≡ 0 = omega (arith, long) in
    let filled = sets_whole (bytes_of a.w a.n) (part a.i (a.i + a.w) a.d.now) (length_bytes a.w a.n ∙ omega (arith, long)) in
    let stored = part_back (bytes_of a.w a.n) a.d.now a.i a.w (length_bytes a.w a.n) c.requires in
    rw (wide, rw done at l.invariant, filled) stored
