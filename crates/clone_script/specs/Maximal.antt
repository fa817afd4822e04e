-- The reply to `maximal`, as bytes.
use Rattle.std.specs.Prelude.{ℕ, suc, List, [], ◌∷◌, ◌++◌, length, codes}
use Rattle.std.specs.Fmt.{decimal}
use Rattle.std.specs.List.{flat_map}
use Rattle.clone_script.specs.declared.maximal.NumberedClass.{NumberedClass}
use Rattle.clone_script.specs.Listing.{file_name, class_text}

-- a class, with its number in the listing of all
abbrev pub numbered_text : List (List ℕ) → NumberedClass → List ℕ
numbered_text names x = class_text names x.number x.class

-- `FILE covered S of T` and a newline
abbrev pub coverage_line : List ℕ → ℕ × ℕ → List ℕ
coverage_line name counts = name ++ codes " covered " ++ decimal counts.0 ++ codes " of " ++ decimal counts.1 ++ codes "\n"

-- the lines of files, the first of which has this number
abbrev pub coverage_lines : List (List ℕ) → ℕ → List (ℕ × ℕ) → List ℕ
coverage_lines names file [] = []
coverage_lines names file (counts ∷ others) = coverage_line (file_name names file) counts ++ coverage_lines names (suc file) others

-- `maximal N` and a newline, then the classes, and a line for each file
abbrev pub maximal_reply : List (List ℕ) → List NumberedClass → List (ℕ × ℕ) → List ℕ
maximal_reply names classes covered =
    codes "maximal " ++ decimal (length classes) ++ codes "\n" ++ flat_map (numbered_text names) classes ++ coverage_lines names 0 covered
