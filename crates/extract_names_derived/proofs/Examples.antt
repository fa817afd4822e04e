-- The worked examples, as they compute.
use Rattle.std.proofs.Common.{◌≡◌, ℕ, ◌<◌, ◌≤◌, ◌⊎◌, inl, inr, [], ◌∷◌, take, drop, None, refl, arith}
use Rattle.go_rewriting.specs.Replacing.{moved}
use Rattle.go_heads.specs.Names.{own_text}
use Rattle.extract_names.specs.Copies.{IsEdge}
use Rattle.extract_names.specs.CopyExample.{copy, taken}
use Rattle.extract_names.specs.Gaps.{Gap, moved_by}
use Rattle.extract_names_derived.specs.Examples.{Examples}
use Rattle.extract_names_derived.proofs.Texts.{low, high}

abbrev hole : Gap
hole = record { from = 12; upto = 13; texts = own_text taken 6 ∷ []; means = λ i. None; declared = [] }

places : (t : ℕ) → IsEdge copy t → copy.place t ≡ moved 8 13 (moved_by (hole ∷ []) t)
places t e = by e.2.0
  where
    by : (t ≤ 12) ⊎ (13 ≤ t) → copy.place t ≡ moved 8 13 (moved_by (hole ∷ []) t)
    by (inl x) = omega (arith, low hole [] t x, e.0)
    by (inr x) = omega (arith, high hole [] t (let lt : 12 < t = omega (arith, x) in lt), e.0)

pub examples : Examples
examples = record {
  lists = (refl, (tt, ((refl, refl, (refl, (refl, tt)), tt), tt)));
  runs = (record { kind = _; first = _; last = _; parts = _; number = 1; new = _; stood = refl; list = refl; change = refl; has = refl; some = refl; statements = (refl, (refl, tt)) }, tt);
  patched = refl;
  places = refl;
  texts = refl;
  copied = record { apart = (omega arith, omega arith, omega arith); long = omega arith; front = take 13 taken.texts; back = drop 24 taken.texts; place = places; texts = refl };
  reused = refl;
  reused_faultless = refl;
  called = refl;
  called_faultless = refl;
  field = refl;
  field_faultless = refl;
}
