-- HOW WHAT AN ANSWER SAYS FILLS A C CALLER'S LENT PLACES, over `Said` alone: no answer's cases are told a second time.
-- A refusal leaves every place as it was.
use Rattle.std.specs.Prelude.{ℕ, ◌≡◌, List, get_or, Float}
use Rattle.law.specs.Said.{Said, refused, carries}
use Rattle.plane.specs.Plane.{zero32}
use Rattle.abi_answers.specs.declared.ended.Places.{Places}
pub use Rattle.abi_answers.specs.declared.factored.Factor.{Factor}

-- ---- one place: which case it is; a whole number and the first float carried, where none is what the place held

abbrev pub how_by : Said → ℕ → ℕ
how_by (refused k) old = old
how_by (carries how counts values) old = how

-- the k-th of the whole numbers; the first
abbrev pub whole_at : ℕ → Said → ℕ → ℕ
whole_at k (refused number) old = old
whole_at k (carries how counts values) old = get_or counts k old

abbrev pub whole_by : Said → ℕ → ℕ
whole_by s old = whole_at 0 s old

abbrev pub float_by : Said → Float → Float
float_by (refused k) old = old
float_by (carries how counts values) old = get_or values 0 old

-- ---- a factor's three places: which case it is, and row and pivot, which are written only where they are carried

abbrev pub factor : ℕ → ℕ → Float → Factor
factor how row pivot = record { how = how; row = row; pivot = pivot }

abbrev pub factor_by : Said → Factor → Factor
factor_by s old = factor (how_by s old.how) (whole_by s old.row) (float_by s old.pivot)

-- three equal places
pub same_factor : (how how' row row' : ℕ) (pivot pivot' : Float) → how ≡ how' → row ≡ row' → pivot ≡ pivot' → factor how row pivot ≡ factor how' row' pivot'
same_factor how how' row row' pivot pivot' h w p = rw (h, w, p)

-- ---- how a solve ended, in four places: its number, its count, the residual's squared length and the denominator; 0 and +0.0 where it carries none

abbrev pub places : ℕ → ℕ → Float → Float → Places
places how count squared denominator = record { how = how; count = count; residual_squared = squared; denominator = denominator }

abbrev pub ending : ℕ → List ℕ → List Float → Places
ending how counts values = places how (get_or counts 0 0) (get_or values 0 zero32) (get_or values 1 zero32)

abbrev pub ending_by : Said → Places → Places
ending_by (refused k) old = old
ending_by (carries how counts values) old = ending how counts values
