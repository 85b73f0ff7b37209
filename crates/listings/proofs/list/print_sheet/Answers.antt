use native.Mathlib.Omega.{arith}
use Rattle.listings.proofs.Sheets.{listing_octets_lem, prints_short, prints_none, prints_sheet}
use Rattle.listings.proofs.list.print_sheet.Goals as goal

pub returns-then-out-lt-LISTINGMOST : goal.returns-then-out-lt-LISTINGMOST
returns-then-out-lt-LISTINGMOST c =
    let a = c.args in
    prints_short a.s.now a.out.now (omega (arith, listing_octets_lem, c.if-out-lt-LISTINGMOST.true))

pub returns-in_default : goal.returns-in_default
returns-in_default c =
    let a = c.args in
    prints_none a.s.now a.out.now
    (omega (arith, listing_octets_lem, c.if-out-lt-LISTINGMOST.false)) _
    c.read_form.ensures c.in_default.is
    c.write_text.ensures

pub returns : goal.returns
returns c =
    let a = c.args in
    prints_sheet a.s.now a.out.now
    (omega (arith, listing_octets_lem, c.if-out-lt-LISTINGMOST.false)) _
    c.read_form.ensures _ c.in-Some.is
    c.write_listing.ensures
