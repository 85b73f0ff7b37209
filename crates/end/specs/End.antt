-- The customer end: its picture of the table, a mark for each procedure, and the request that it waits for (document 01, "The customer end").
use Rattle.std.specs.Prelude.{ℕ, ◌≡◌, Bool, List, [], ◌∷◌, get_or, set, ltb, leb, eqb}
use Rattle.laws.specs.Tests.{all, any}
use Rattle.laws.specs.Mark.{known, doubt, mark_no}
use Rattle.profile.specs.Profile.{flag}
use Rattle.profile.specs.declared.profile.Profile.{Profile}
use Rattle.requests.specs.Request.{no_request}
use Rattle.requests.specs.Sent.{sendable}
use Rattle.lists.specs.Entries.{instances_most}
use Rattle.instances.specs.Run.{packed, run_good}
use Rattle.instances.specs.declared.run.Run.{Run}
use Rattle.end.specs.declared.end.End.{End}

-- the mark of a procedure
unfoldable pub mark_at : ℕ → List ℕ → ℕ
mark_at procedure marks = get_or marks procedure (mark_no doubt)

-- the marks, with that of one procedure put there
unfoldable pub marked : ℕ → ℕ → List ℕ → List ℕ
marked procedure mark marks = set marks procedure mark

-- "fresh: all known, empty"
abbrev pub fresh_end : End
fresh_end = record {
  used = 0;
  outstanding = 0;
  operation = 0;
  before = mark_no doubt;
  request = no_request;
  marks = mark_no known ∷ mark_no known ∷ mark_no known ∷ [];
  picture = packed [];
}

-- every way to close a request is this: its procedure gets this mark, and the end this picture
unfoldable pub closed : ℕ → Run → End → End
closed mark picture e = record {
  used = e.used;
  outstanding = 0;
  operation = 0;
  before = mark_no doubt;
  request = no_request;
  marks = marked e.request.procedure mark e.marks;
  picture = picture;
}

-- ---- an end that breaks no rule

-- "identifiers 1, 2, 3 up to 32,767"
abbrev pub used_most : ℕ
used_most = 32767

-- a mark for each procedure, each of them one of the two
unfoldable pub marks_good : List ℕ → Bool
marks_good marks = all (flag (get_or marks 0 0) ∷ flag (get_or marks 1 0) ∷ flag (get_or marks 2 0) ∷ [])

-- an outstanding request is one that may be sent, its identifier is the last used, and the mark from before is one
unfoldable pub waiting_good : End → Bool
waiting_good e =
    any
    (eqb e.outstanding 0
    ∷ all (ltb 0 e.used ∷ flag e.before ∷ sendable e.operation e.request ∷ [])
    ∷ [])

abbrev pub end_rules : End → List Bool
end_rules e =
    leb e.used used_most
    ∷ flag e.outstanding
    ∷ marks_good e.marks
    ∷ waiting_good e
    ∷ []

-- "Tables, pictures and sheets obey these rules", over the limit of instances for each procedure
unfoldable pub end_good : ℕ → Profile → End → Bool
end_good most p e = all (all (end_rules e) ∷ run_good most p e.picture ∷ [])

-- what `fresh_end` promises
abbrev pub FreshEnd : End → Type 0
FreshEnd r = r ≡ fresh_end

-- what `good` promises
abbrev pub EndGood : Profile → End → Bool → Type 0
EndGood p e r = r ≡ end_good instances_most p e
