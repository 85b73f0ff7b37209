use Rattle.sconcetoad.specs.Desk.{page_of}
use mathlib.Core.Path.{ap, ◌∙◌}
use Rattle.sconcetoad.proofs.desk.sconcetoad_entry.Goals as goal

pub returns : goal.returns
returns c =
    record {
      page = c.page_of.ensures
          ∙ ap page_of c.entry-out.ensures.told;
      entry = c.entry-out.ensures.entry;
    }
