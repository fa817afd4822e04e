-- What is known of the files that were read.
use Rattle.std.proofs.Common.{◌≡◌, ℕ, zero, suc, ◌+◌, ◌<◌, ◌≤◌, List, [], ◌∷◌, ◌++◌, Some, drop, length, map, refl, ap, sym, subst, ◌∙◌, arith}
use Rattle.std.specs.Prelude.{slice_get, get_or}
use Rattle.std.proofs.lemmas.List.{append_assoc}
use Rattle.std.proofs.lemmas.Option.{slice_get_within, get_or_from_slice_get}
use Rattle.go_base.specs.declared.bytes.FileText.{FileText}
use Rattle.go_tokens.specs.Files.{IsLexing}
use Rattle.go_tree.specs.declared.object.Declared.{Declared}
use Rattle.go_tree.specs.File.{FileTree}
use Rattle.go_typed.specs.declared.origin.Origin.{Origin}
use Rattle.go_exprs_rules.proofs.Public.{drop_step}
use Rattle.go_scopes.specs.Resolve as resolving
use Rattle.go_package_defs.specs.Checked.{IsRead, AreRead, names_of, texts_by, local_origins, function_origins}
use Rattle.go_package_defs.specs.Sources.{source_of, unit_of}
use Rattle.go_package_types.specs.Answers.{AreLexedFiles}
use Rattle.go_package.specs.Functions.{IsFileOf, AreFiles}

its_file : (n : ℕ) (x : FileText) (f : FileTree) → IsRead n x f → IsFileOf n f
its_file n x f h = record { number = h.number; lexing = subst (λ b. IsLexing n b f.tokens.tokens f.tokens.comments) (sym h.bytes) h.lexing; tree = h.tree }

files_from : (n : ℕ) (xs : List FileText) (fs : List FileTree) → AreRead n xs fs → (k : ℕ) (f : FileTree) → slice_get fs k ≡ Some f → IsFileOf (n + k) f
files_from n [] [] h k f e = cc
files_from n (x ∷ xs) (g ∷ fs) h zero f e = let same : n ≡ n + 0 = omega arith in subst (λ m. IsFileOf m f) same (subst (IsFileOf n) (let is : g ≡ f = cc in is) (its_file n x g h.0))
files_from n (x ∷ xs) (g ∷ fs) h (suc k) f e = let same : suc n + k ≡ n + suc k = omega arith in subst (λ m. IsFileOf m f) same (files_from (suc n) xs fs h.1 k f e)
files_from n [] (g ∷ fs) h k f e = absurd h
files_from n (x ∷ xs) [] h k f e = absurd h

pub are_files : (xs : List FileText) (fs : List FileTree) → AreRead 0 xs fs → AreFiles fs
are_files xs fs h n f e = let m : 0 + n ≡ n = omega arith in subst (λ k. IsFileOf k f) m (files_from 0 xs fs h n f e)

lexed_from : (n : ℕ) (xs : List FileText) (fs : List FileTree) → AreRead n xs fs → AreLexedFiles n fs
lexed_from n [] [] h = tt
lexed_from n (x ∷ xs) (f ∷ fs) h = (record { number = h.0.number; lexing = subst (λ b. IsLexing n b f.tokens.tokens f.tokens.comments) (sym h.0.bytes) h.0.lexing; tree = h.0.tree }, lexed_from (suc n) xs fs h.1)
lexed_from n [] (f ∷ fs) h = absurd h
lexed_from n (x ∷ xs) [] h = absurd h

pub are_lexed : (xs : List FileText) (fs : List FileTree) → AreRead 0 xs fs → AreLexedFiles 0 fs
are_lexed xs fs h = lexed_from 0 xs fs h

count_from : (n : ℕ) (xs : List FileText) (fs : List FileTree) → AreRead n xs fs → length fs ≡ length xs
count_from n [] [] h = refl
count_from n (x ∷ xs) (f ∷ fs) h = ap suc (count_from (suc n) xs fs h.1)
count_from n [] (f ∷ fs) h = absurd h
count_from n (x ∷ xs) [] h = absurd h

pub are_few : (xs : List FileText) (fs : List FileTree) → AreRead 0 xs fs → length xs ≤ 256 → length fs ≤ 256
are_few xs fs h few = let same = count_from 0 xs fs h in omega (arith, same, few)

texts_from : (n : ℕ) (xs : List FileText) (fs : List FileTree) → AreRead n xs fs → texts_by (names_of xs) fs ≡ xs
texts_from n [] [] h = refl
texts_from n (x ∷ xs) (f ∷ fs) h =
    ap (λ b. (let y : FileText = record { name = x.name; bytes = b } in y) ∷ texts_by (names_of xs) fs) h.0.bytes
    ∙ ap (λ ys. x ∷ ys) (texts_from (suc n) xs fs h.1)
texts_from n [] (f ∷ fs) h = absurd h
texts_from n (x ∷ xs) [] h = absurd h

-- the files are these texts
pub texts_are : (xs : List FileText) (fs : List FileTree) → AreRead 0 xs fs → texts_by (names_of xs) fs ≡ xs
texts_are xs fs h = texts_from 0 xs fs h

-- the files as names see them
pub units_are : (fs : List FileTree) → map unit_of (map source_of fs) ≡ resolving.units_of fs
units_are [] = refl
units_are (f ∷ fs) = ap (λ us. resolving.unit_of f ∷ us) (units_are fs)

-- one name more
pub names_step : (xs : List FileText) (k : ℕ) (x d : FileText) → k < length xs → x ≡ get_or xs k d → (ns ms whole : List (List ℕ)) (n : List ℕ) → n ≡ x.name → ms ≡ ns ++ n ∷ [] → ns ++ names_of (drop k xs) ≡ whole
    → ms ++ names_of (drop (k + 1) xs) ≡ whole
names_step xs k x d lt at ns ms whole n is more h =
    let rest = names_of (drop (k + 1) xs) in
    ap (λ z. z ++ rest) (more ∙ ap (λ m. ns ++ m ∷ []) is) ∙ append_assoc ns (x.name ∷ []) rest ∙ ap (λ z. ns ++ names_of z) (sym (drop_step xs k x d lt at)) ∙ h

-- the types of one function more
pub origins_step : (dss : List (List Declared)) (k : ℕ) (ds : List Declared) → slice_get dss k ≡ Some ds → (os ms whole : List Origin) (f g : ℕ) → g ≡ f + 1 → ms ≡ os ++ local_origins f 0 ds
    → os ++ function_origins f (drop k dss) ≡ whole
    → ms ++ function_origins g (drop (k + 1) dss) ≡ whole
origins_step dss k ds at os ms whole f g next more h =
    let rest = drop (k + 1) dss in
    let after : g ≡ suc f = omega (arith, next) in
    ap (λ z. z ++ function_origins g rest) more ∙ append_assoc os (local_origins f 0 ds) (function_origins g rest)
    ∙ ap (λ m. os ++ (local_origins f 0 ds ++ function_origins m rest)) after
    ∙ ap (λ z. os ++ function_origins f z) (sym (drop_step dss k ds ds (slice_get_within dss k ds at) (sym (get_or_from_slice_get dss k ds ds at)))) ∙ h
