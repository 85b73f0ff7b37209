use Rattle.std.proofs.Common.{◌≡◌, ◌+◌, ◌*◌, take}
use Rattle.laws.specs.Over.{Wrote}
use Rattle.texts.specs.Word.{hex_text}
use Rattle.texts.proofs.hex.write_hex.Given as goal

abbrev pub invariant-loop-octet : goal.invariant-loop-octet
invariant-loop-octet l =
    (l.p ≡ l.at + 2 * l.octet-index) × Wrote l.initial.out l.at (hex_text (take l.octet-index l.octets)) l.p l.out
