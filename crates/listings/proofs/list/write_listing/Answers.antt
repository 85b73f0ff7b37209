use Rattle.std.proofs.Common.{◌≡◌, length, rules}
use Rattle.laws.proofs.Parts.{unmapped}
use Rattle.instances.specs.Places.{run_most}
use Rattle.texts.proofs.Pens.{pen_then}
use Rattle.listings.proofs.Sheets.{run_parts}
use Rattle.listings.proofs.list.write_listing.Goals as goal

pub returns : goal.returns
returns c =
    let long : length c.args.run.run ≡ run_most = search (unmapped, rules, c.well_formed) in
    rw (run_parts c.args.last c.args.run _ long c.stored-few.ensures) (pen_then c.write_header-p.ensures c.write_lines.ensures)
