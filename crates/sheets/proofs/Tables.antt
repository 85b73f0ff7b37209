-- Laws of a night sheet read against a profile, over plain values: what is handed back. Assumes nothing.
use Prim.Native.Nat.{ℕ}
use mathlib.Core.Path.{◌≡◌, sym, ap, ◌∙◌}
use mathlib.Core.Bool.{Bool, true, false, not, false≢true}
use mathlib.Core.List.{List}
use Rattle.std.specs.Prelude.{Option, Some, None, Ok, Err}
use Rattle.laws.specs.Pick.{pick}
use Rattle.laws.specs.Got.{Got, got, wrong}
use Rattle.laws.proofs.Picks.{by_bool}
use Rattle.refusals.specs.Refusal.{tells}
use Rattle.refusals.specs.declared.refusal.Refusal.TheVariants.{BadProfile, BadSheet}
use Rattle.profile.specs.Access.{access_read}
use Rattle.profile.specs.declared.profile.Profile.{Profile}
use Rattle.profile.proofs.Records.{read_some, read_none}
use Rattle.lists.specs.Entries.{instances_most}
use Rattle.instances.specs.Run.{instances_of, packed, instances_good, run_good}
use Rattle.instances.specs.declared.instance.Instance.{Instance}
use Rattle.instances.proofs.Goods.{run_good_lem, list_good_lem, good_list, good_run}
use Rattle.exchange.specs.Table.{table_of}
use Rattle.forms.specs.Form.{form1}
use Rattle.forms.specs.Sheet.{Sheet, sheet_in}
use Rattle.forms.specs.Formed.{ReadForm}
use Rattle.forms.specs.declared.sheet.FormRead.{FormRead}
use Rattle.forms.proofs.Fits.{form1_short}
use Rattle.forms.proofs.Sheets.{allowed_packed, FormFound, form_found, form_none}
use Rattle.sheets.specs.Sheets.{sheet_allowed, table_in, TableRead, not_read, read_sheet, ReadsSheet}

-- ---- the run of a sheet

-- it breaks a rule of the profile where an instance of the sheet does: there is room for all of them
run_same :
    (p : Profile) (is : List Instance) → instances_of (packed is) ≡ is →
    run_good instances_most p (packed is) ≡ instances_good instances_most p is
run_same p is all =
    by_bool (run_good instances_most p (packed is) ≡ instances_good instances_most p is) (instances_good instances_most p is)
    (λ e. good_run p is (good_list p instances_most is e) ∙ sym e)
    (λ e.
    by_bool (run_good instances_most p (packed is) ≡ instances_good instances_most p is) (run_good instances_most p (packed is))
    (λ f.
    absurd (false≢true (sym e ∙ list_good_lem p instances_most is (rw all at (run_good_lem p instances_most (packed is) f)))))
    (λ f. f ∙ sym e))

-- ---- what is handed back

-- what is read where the profile is good: the sheet decides
abbrev pub table_from : Profile → Got Sheet → TableRead
table_from p g = pick (not (sheet_allowed p g)) (not_read BadSheet) (record { told = tells tt; table = table_in g })

module _ (access s : List ℕ) where
  pub reads_profile : (access_read access).ok ≡ false → ReadsSheet access s (Err BadProfile)
  unfolding read_sheet
  reads_profile bad = record { told = rw bad; table = rw bad }

  module _ (p : Profile) (read : ((access_read access).ok ≡ true) × ((access_read access).profile ≡ p))
      (r : Option FormRead) (told : ReadForm s r) where
    reads_from : (g : Got Sheet) → sheet_in form1 s ≡ g → read_sheet access s ≡ table_from p g
    unfolding read_sheet
    reads_from g e = rw (read.0, e, read.1)

    -- no sheet
    pub reads_form : r ≡ None → ReadsSheet access s (Err BadSheet)
    reads_form h = let none = reads_from wrong (form_none s told h) in record { told = rw none; table = rw none }

    module _ (f : FormRead) (whole : r ≡ Some f) where
      was : FormFound s f
      was = form_found s told whole

      abbrev is : List Instance
      is = was.sheet.instances

      run_is : (t : Bool) → run_good instances_most p f.run ≡ t → instances_good instances_most p is ≡ t
      run_is t h =
          sym (run_same p is (allowed_packed form1 form1_short was.sheet was.allowed))
          ∙ ap (run_good instances_most p) (sym was.run)
          ∙ h

      read_is : read_sheet access s ≡ table_from p (got was.sheet was.next)
      read_is = reads_from (got was.sheet was.next) was.is

      -- one that breaks a rule of the profile
      pub reads_outside : run_good instances_most p f.run ≡ false → ReadsSheet access s (Err BadSheet)
      reads_outside h = record { told = rw (read_is, run_is false h); table = rw (read_is, run_is false h) }

      -- one that breaks none
      pub reads_table : run_good instances_most p f.run ≡ true → ReadsSheet access s (Ok (table_of f.last f.run))
      reads_table h = record {
        told = rw (read_is, run_is true h);
        table = rw (read_is, run_is true h)
            (ap (λ (last : ℕ). table_of last f.run) was.last ∙ ap (table_of was.sheet.last) was.run);
      }

-- what finds each way out of `read_sheet`
pub ruleset reads = (reads_profile, reads_form, reads_outside, reads_table, read_none, read_some)
