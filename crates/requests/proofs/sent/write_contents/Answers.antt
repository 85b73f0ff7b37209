use lib.ListN.{length-append}
use Rattle.requests.proofs.Senders.{room_rest, contents_wrote}
use Rattle.requests.specs.Sent.{served_octets, to_octets}
use Rattle.laws.proofs.Over.{room_then}
use native.Mathlib.Omega.{arith}
use Rattle.requests.proofs.sent.write_contents.Goals as goal

pub write_to-k-requires : goal.write_to-k-requires
write_to-k-requires c = let a = c.args in
    let rest = room_rest a.operation a.r
    c.requires
    c.put_enumerated-p.ensures
    c.put_enumerated-q.ensures in
    omega (arith, rest, length-append (to_octets a.operation a.r.to) (served_octets a.r.served))

pub write_served-requires : goal.write_served-requires
write_served-requires c =
    let a = c.args in
    let rest = room_rest a.operation a.r c.requires
    c.put_enumerated-p.ensures
    c.put_enumerated-q.ensures in
    room_then (served_octets a.r.served) rest c.write_to-k.ensures

pub returns : goal.returns
returns c =
    let a = c.args in
    contents_wrote a.operation a.r c.requires
    c.put_enumerated-p.ensures
    c.put_enumerated-q.ensures
    c.write_to-k.ensures c.write_served.ensures
