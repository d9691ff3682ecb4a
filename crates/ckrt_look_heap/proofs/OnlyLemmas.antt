-- Each error that is told is one.
use Rattle.std.proofs.Common.{◌≡◌, ◌∙◌, ◌/◌, ◌&&◌, nat_lt, Bool, true, false, if◌then◌else◌, List, [], ◌∷◌, ◌++◌, length, get_or, slice_get, Option, Some, None, refl, sym, ap, subst}
use Rattle.std.specs.List.{AllByRecursion, list_any}
use Rattle.std.proofs.lemmas.List.{append-nil, append_assoc}
use Rattle.ckrt_look_heap.specs.declared.block.Access.{Access}
use Rattle.ckrt_look_heap.specs.declared.block.Cell.{Cell}
use Rattle.ckrt_look_heap.specs.declared.block.Cell.TheVariants as cell
use Rattle.ckrt_look_heap.specs.declared.finding.Finding.{Finding}
use Rattle.ckrt_look_heap.specs.declared.finding.TheConstants.{FINDINGS}
use Rattle.ckrt_look_heap.specs.declared.shadow.Note.{Note}
use Rattle.ckrt_look_heap.specs.declared.shadow.Note.TheVariants as note
use Rattle.ckrt_look_heap.specs.Laws.{AreErrorsOf, IsErrorOf, IsUnfit, OnlyErrorsAreTold, begins}
use Rattle.ckrt_look_heap.specs.Shadow.{Found, Heap, behind, behind_all, counted, first_one, freed_as, fresh, given_back, head_of, if_told, is_at, is_begin, noted, one_more, used_as, with_error, with_row, wrong}

-- WHAT IS SO OF ALL ROWS

-- of their accesses and cells
abbrev Of : (Access → Cell → Type 0) → List Finding → Type 0
Of P fs = AllByRecursion (λ (f : Finding). P f.access f.cell) fs

wider : (P Q : Access → Cell → Type 0) → ((a : Access) (c : Cell) → P a c → Q a c) → (fs : List Finding) → Of P fs → Of Q fs
wider P Q more [] all = tt
wider P Q more (f ∷ fs) all = (more f.access f.cell all.0, wider P Q more fs all.1)

choice : (P : Access → Cell → Type 0) (t : Bool) (xs ys : List Finding) → Of P xs → Of P ys → Of P (if t then xs else ys)
choice P true xs ys p q = p
choice P false xs ys p q = q

counted_so : (P : Access → Cell → Type 0) (a : Access) (c : Cell) (fs : List Finding) → Of P fs → Of P (counted a c fs)
counted_so P a c [] all = tt
counted_so P a c (f ∷ fs) all =
    choice P (is_at a c f) (record f { count = one_more f.count } ∷ fs) (f ∷ counted a c fs) (all.0, all.1) (all.0, counted_so P a c fs all.1)

added_so : (P : Access → Cell → Type 0) (f : Finding) (fs : List Finding) → Of P fs → P f.access f.cell → Of P (fs ++ f ∷ [])
added_so P f [] all p = (p, tt)
added_so P f (g ∷ fs) all p = (all.0, added_so P f fs all.1 p)

-- one error more
either_rows : (P : Access → Cell → Type 0) (t : Bool) (f g : Found) → Of P f.rows → Of P g.rows → Of P (if t then f else g).rows
either_rows P true f g p q = p
either_rows P false f g p q = q

noted_so : (P : Access → Cell → Type 0) (a : Access) (c : Cell) (f : Found) → Of P f.rows → P a c → Of P (noted a c f).rows
noted_so P a c f all p =
    either_rows P (list_any (is_at a c) f.rows) (record f { rows = counted a c f.rows }) (with_row a c f) (counted_so P a c f.rows all)
    (either_rows P (nat_lt (length f.rows) FINDINGS) (record f { rows = f.rows ++ first_one a c ∷ [] }) (record f { others = one_more f.others }) (added_so P (first_one a c) f.rows all p) all)

either_heap : (P : Access → Cell → Type 0) (t : Bool) (g h : Heap) → (t ≡ true → Of P g.found.rows) → (t ≡ false → Of P h.found.rows) → Of P (if t then g else h).found.rows
either_heap P true g h p q = p refl
either_heap P false g h p q = q refl

told_so : (P : Access → Cell → Type 0) (t : Bool) (a : Access) (c : Cell) (h : Heap) → Of P h.found.rows → P a c → Of P (if_told t a c h).found.rows
told_so P t a c h all p = either_heap P t (with_error a c h) h (λ _. noted_so P a c h.found all p) (λ _. all)

used_so : (P : Access → Cell → Type 0) (a : Access) (h : Heap) (o : Option Cell) → wrong a (slice_get h.cells (a.address / 4)) ≡ o → Of P h.found.rows → ((c : Cell) → wrong a (slice_get h.cells (a.address / 4)) ≡ Some c → P a c) → Of P (used_as a o h).found.rows
used_so P a h None is all p = all
used_so P a h (Some c) is all p = noted_so P a c h.found all (p c is)

freed_so : (P : Access → Cell → Type 0) (t : Bool) (a : Access) (h : Heap) (c : Cell) → get_or h.cells (head_of a) cell.Unknown ≡ c → Of P h.found.rows → ((d : Cell) → get_or h.cells (head_of a) cell.Unknown ≡ d → begins a d ≡ false → P a d) → Of P (freed_as t a c h).found.rows
freed_so P t a h cell.Unknown is all p = told_so P (t && h.is_whole) a cell.Unknown h all (p cell.Unknown is refl)
freed_so P t a h cell.Unowned is all p = told_so P t a cell.Unowned h all (p cell.Unowned is refl)
freed_so P t a h (cell.Given b) is all p =
    either_heap P (is_begin a b) (given_back a.moment b h) (if_told t a (cell.Given b) h) (λ _. all) (λ no. told_so P t a (cell.Given b) h all (p (cell.Given b) is no))
freed_so P t a h (cell.GivenBack b m) is all p = told_so P t a (cell.GivenBack b m) h all (p (cell.GivenBack b m) is refl)
freed_so P t a h (cell.Ended b m) is all p = told_so P t a (cell.Ended b m) h all (p (cell.Ended b m) is refl)

-- by a note
note_so : (P : Access → Cell → Type 0) (n : Note) (h : Heap) → Of P h.found.rows → ((a : Access) (c : Cell) → IsUnfit n h a c → P a c) → Of P (behind n h).found.rows
note_so P (note.Use a) h all p = used_so P a h (wrong a (slice_get h.cells (a.address / 4))) refl all (λ c is. p a c (refl, is))
note_so P (note.Give b) h all p = all
note_so P (note.GiveBack a t) h all p = freed_so P t a h (get_or h.cells (head_of a) cell.Unknown) refl all (λ c is no. p a c (refl, is, no))
note_so P (note.Disown q m) h all p = all
note_so P (note.End e) h all p = all

-- NOTE BY NOTE

behind_more : (ns : List Note) (n : Note) (h : Heap) → behind_all (ns ++ n ∷ []) h ≡ behind n (behind_all ns h)
behind_more [] n h = refl
behind_more (m ∷ ns) n h = behind_more ns n (behind m h)

-- an error of some notes is one of more
longer : (h : Heap) (ns more : List Note) (a : Access) (c : Cell) → IsErrorOf h ns a c → IsErrorOf h (ns ++ more) a c
longer h ns more a c is = record {
  before = is.before;
  note = is.note;
  after = is.after ++ more;
  all = ap (λ l. l ++ more) is.all ∙ append_assoc is.before (is.note ∷ is.after) more;
  is_unfit = is.is_unfit;
}

one : (h : Heap) (ns : List Note) (n : Note) → AreErrorsOf h ns (behind_all ns h).found.rows → AreErrorsOf h (ns ++ n ∷ []) (behind n (behind_all ns h)).found.rows
one h ns n all =
    note_so (IsErrorOf h (ns ++ n ∷ [])) n (behind_all ns h)
    (wider (IsErrorOf h ns) (IsErrorOf h (ns ++ n ∷ [])) (longer h ns (n ∷ [])) (behind_all ns h).found.rows all)
    (λ a c unfit. record { before = ns; note = n; after = []; all = refl; is_unfit = unfit })

all_so : (h : Heap) (ns more : List Note) → AreErrorsOf h ns (behind_all ns h).found.rows → AreErrorsOf h (ns ++ more) (behind_all more (behind_all ns h)).found.rows
all_so h ns [] all = subst (λ l. AreErrorsOf h l (behind_all ns h).found.rows) (sym (append-nil ns)) all
all_so h ns (n ∷ more) all =
    let next : AreErrorsOf h (ns ++ n ∷ []) (behind_all (ns ++ n ∷ []) h).found.rows = subst (λ (g : Heap). AreErrorsOf h (ns ++ n ∷ []) g.found.rows) (sym (behind_more ns n h)) (one h ns n all) in
    subst (λ l. AreErrorsOf h l (behind_all more (behind n (behind_all ns h))).found.rows) (append_assoc ns (n ∷ []) more)
    (subst (λ (g : Heap). AreErrorsOf h ((ns ++ n ∷ []) ++ more) (behind_all more g).found.rows) (behind_more ns n h) (all_so h (ns ++ n ∷ []) more next))

pub only_errors : OnlyErrorsAreTold
only_errors w words ns = all_so (fresh w words) [] ns tt
