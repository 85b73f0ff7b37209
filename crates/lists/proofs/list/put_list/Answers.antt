use native.Mathlib.Omega.{arith}
use Prim.Native.Nat.{◌*◌, ◌≤◌, min}
use mathlib.Core.Path.{◌≡◌, refl, ap, ◌∙◌}
use mathlib.Core.List.{List}
use lib.ListN.{length}
use mir.Facts.{to_z-of_z}
use Rattle.lists.proofs.Measures.{measured_none, measured_next, counted_all, writing_first, writing_room}
use Rattle.lists.proofs.Measures.{writing_rest, writing_next}
use Rattle.lists.proofs.Heads.{head_after, list_none, list_all, list_empty}
use Rattle.lists.specs.declared.entry.Entry.{Entry}
use Rattle.lists.specs.Entries.{instances_most, entries_in, entries_octets}
use Rattle.lists.specs.Entry.{no_entry, entry_size}
use Rattle.laws.proofs.Over.{wrote_length}
use Rattle.laws.proofs.Parts.{unmapped}
use borrow.Author.Rules.{rules}
use Rattle.lists.proofs.list.put_list.Goals as goal

pub returns-then-n-eq0 : goal.returns-then-n-eq0
returns-then-n-eq0 c =
    let a = c.args in
    let id = to_z-of_z c.ranges.identifier in
    let none : a.list.count ≡ 0 = omega
    (arith, c.if-n-eq0.true, c.counted-n.ensures) in
    rw none (list_empty a.identifier (rw id at c.put_list_head.ensures))

pub loop-i-init : goal.loop-i-init
loop-i-init c = (omega arith, c.counted-n.ensures, search (unmapped, rules), search rules, measured_none _ _)

pub overflow_cast-sizes : goal.overflow_cast-sizes
overflow_cast-sizes c = omega (arith, c.entry_size-one.ensures.1)

pub overflow_add-size : goal.overflow_add-size
overflow_add-size c =
    omega (
      arith,
      c.entry_size-one.ensures.1,
      c.loop-i.invariant.4.within,
      c.loop-i.invariant.0,
      c.loop-i.invariant.1,
    )

pub loop-i-preserved : goal.loop-i-preserved
loop-i-preserved c =
    let l = c.loop-i in
    let more = c.loop-i-test.true in
    let one = c.entry_size-one.ensures in (
      omega (arith, more),
      l.invariant.1,
      l.invariant.2,
      search (rules, l.invariant.3),
      measured_next _ l.invariant.4 _ _ (omega (arith, more, l.invariant.1, l.invariant.2)) (omega (arith, more, l.invariant.1, l.invariant.3)) one.0
          one.1,
    )

pub returns-then-at-eq0 : goal.returns-then-at-eq0
returns-then-at-eq0 c =
    let l = c.loop-i in
    let a = c.args in
    let id = to_z-of_z c.ranges.identifier in
    let all : l.i ≡ min a.list.count instances_most = omega
    (arith, l.invariant.0, l.invariant.1, c.loop-i-test.false) in
    let is = l.invariant.4.sum ∙ ap (λ (es : List Entry). length (entries_octets es))
    (counted_all a.list.entries a.list.count l.i l.invariant.2 all) in
    let few : l.size ≤ entry_size * instances_most = omega (arith, l.invariant.4.within, all) in
    let head = rw id at c.put_list_head-at.ensures in
    list_none a.identifier (entries_in a.list) is few head c.if-at-eq0.true

pub loop-j-init : goal.loop-j-init
loop-j-init c =
    let l = c.loop-i in
    let a = c.args in
    let id = to_z-of_z c.ranges.identifier in
    let all : l.i ≡ min a.list.count instances_most = omega
    (arith, l.invariant.0, l.invariant.1, c.loop-i-test.false) in
    let is = l.invariant.4.sum ∙ ap (λ (es : List Entry). length (entries_octets es))
    (counted_all a.list.entries a.list.count l.i l.invariant.2 all) in
    let few : l.size ≤ entry_size * instances_most = omega (arith, l.invariant.4.within, all) in
    let head = rw id at c.put_list_head-at.ensures in
    let same : l.i ≡ c.counted-n.result = omega (arith, all, l.invariant.1) in (
      refl,
      writing_first _ _ _ _ (rw same at l.invariant.4) (omega (arith, l.invariant.1, l.invariant.2))
          (head_after a.identifier (entries_in a.list) is few head c.if-at-eq0.false),
    )

pub bounds-sizes-j : goal.bounds-sizes-j
bounds-sizes-j c =
    search (
      rules,
      c.loop-i.invariant.3,
      c.loop-i.invariant.1,
    )

pub overflow_cast-end : goal.overflow_cast-end
overflow_cast-end c = let l = c.loop-j in omega (arith, l.invariant.1.measured.small l.j c.loop-j-test.true)

pub overflow_add-end : goal.overflow_add-end
overflow_add-end c = let l = c.loop-j in search (rules, writing_room _ _ _ _ l.invariant.1 c.loop-j-test.true no_entry)

pub write_start-m-requires : goal.write_start-m-requires
write_start-m-requires c =
    let l = c.loop-j in
    let more = c.loop-j-test.true in
    (l.invariant.1.measured.each l.j _ more, writing_room _ _ _ _ l.invariant.1 more no_entry)

pub write_rest-at-requires : goal.write_rest-at-requires
write_rest-at-requires c =
    let l = c.loop-j in
    let more = c.loop-j-test.true in
    let start = c.write_start-m.ensures in (
      writing_rest _ _ _ _ l.invariant.1 more _ start.1 start.0,
      omega
          (arith, writing_room _ _ _ _ l.invariant.1 more no_entry, wrote_length start.0),
    )

pub loop-j-preserved : goal.loop-j-preserved
loop-j-preserved c =
    let l = c.loop-j in
    let more = c.loop-j-test.true in
    let start = c.write_start-m.ensures in
    (search rules, writing_next _ _ _ _ l.invariant.1 more _ start.1 start.0 c.write_rest-at.ensures)

pub returns : goal.returns
returns c =
    let l = c.loop-i in
    let a = c.args in
    let id = to_z-of_z c.ranges.identifier
    in
    let all : l.i ≡ min a.list.count instances_most = omega
    (arith, l.invariant.0, l.invariant.1, c.loop-i-test.false) in
    let is = l.invariant.4.sum ∙ ap (λ (es : List Entry). length (entries_octets es))
    (counted_all a.list.entries a.list.count l.i l.invariant.2 all) in
    let few : l.size ≤ entry_size * instances_most = omega (arith, l.invariant.4.within, all) in
    let head = rw id at c.put_list_head-at.ensures in
    let so = c.loop-j.invariant.1 in
    let last : c.loop-j.j ≡ min a.list.count instances_most = omega (arith, so.few, l.invariant.1, c.loop-j-test.false) in
    list_all a.identifier (entries_in a.list) is few head c.if-at-eq0.false
    (rw (counted_all a.list.entries a.list.count _ l.invariant.2 last) at so.holds)
