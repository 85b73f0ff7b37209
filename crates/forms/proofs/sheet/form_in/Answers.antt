use Rattle.octets.proofs.Founds.{found_got, found_wrong}
use Rattle.instances.specs.Run.{packed}
use Rattle.forms.proofs.Parts.{got_as_got, got_as_wrong}
use Rattle.forms.proofs.Sheets.{sheet_no_opening, sheet_many, sheet_no_instances, sheet_after}
use Rattle.forms.proofs.Sheets.{sheet_disordered, sheet_read}
use Rattle.forms.specs.Sheet.{instances_from}
use Rattle.forms.specs.inner.Reading.{opening_in}
use Rattle.forms.proofs.sheet.form_in.Goals as goal

pub returns-in_err-opening : goal.returns-in_err-opening
returns-in_err-opening c =
    let a = c.args in
    let none = found_wrong (opening_in a.f _) c.opening_of.ensures c.in_err-opening.was in
    rw (c.from_residual.ensures, sheet_no_opening a.f a.s.now none)

pub returns-then-count-gt-ROOM : goal.returns-then-count-gt-ROOM
returns-then-count-gt-ROOM c =
    let a = c.args in
    let opened = found_got (opening_in a.f _) c.opening_of.ensures c.in_ok-opening.was in
    rw (sheet_many a.f a.s.now _ _ opened c.requires c.if-count-gt-ROOM.true)

pub returns-in_err-read : goal.returns-in_err-read
returns-in_err-read c =
    let a = c.args in
    let opened = found_got (opening_in a.f _) c.opening_of.ensures c.in_ok-opening.was in
    let none = got_as_wrong packed (instances_from a.f _ _ _) c.instances_from.ensures c.in_err-read.was in
    rw (c.from_residual-in_err-read.ensures, sheet_no_instances a.f a.s.now _ _ opened none)

pub returns-then-read-s : goal.returns-then-read-s
returns-then-read-s c =
    let a = c.args in
    let opened = found_got (opening_in a.f _) c.opening_of.ensures c.in_ok-opening.was in
    let found = got_as_got packed (instances_from a.f _ _ _) c.instances_from.ensures c.in_ok-read.was in
    rw (sheet_after a.f a.s.now _ _ opened _ _ found.is c.if-read-s.true)

pub returns-then-not-ordered : goal.returns-then-not-ordered
returns-then-not-ordered c =
    let a = c.args
    in
    let opened = found_got (opening_in a.f _) c.opening_of.ensures c.in_ok-opening.was in
    let found = got_as_got packed (instances_from a.f _ _ _) c.instances_from.ensures c.in_ok-read.was in
    rw (sheet_disordered a.f a.s.now _ _ opened _ _ found.is _ found.held
    c.if-count-gt-ROOM.false _
    c.ordered.ensures c.if-not-ordered.true)

pub returns : goal.returns
returns c =
    let a = c.args in
    let opened = found_got (opening_in a.f _) c.opening_of.ensures c.in_ok-opening.was in
    let found = got_as_got packed (instances_from a.f _ _ _) c.instances_from.ensures c.in_ok-read.was in
    sheet_read a.f a.s.now _ _ opened _ _ found.is _ found.held
    c.if-count-gt-ROOM.false _
    c.ordered.ensures c.if-read-s.false c.if-not-ordered.false
