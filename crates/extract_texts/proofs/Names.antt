-- The names of declared types, as they are printed.
use mathlib.Core.Path.{fun_ext}
use Rattle.std.proofs.Common.{◌≡◌, ◌∙◌, ℕ, List, [], Option, Some, None, slice_get, refl, sym, ap}
use Rattle.std.specs.Prelude.{unwrap_or}
use Rattle.std.specs.Option.{option_map}
use Rattle.go_tokens.specs.declared.token.Token.{Token}
use Rattle.go_tokens.specs.Tokens.{TokenList, text_of}
use Rattle.go_tree.specs.declared.object.Declared.{Declared}
use Rattle.go_tree.specs.File.{FileTree}
use Rattle.go_tree.specs.Units as units
use Rattle.go_tree.specs.Uses.{declared_as}
use Rattle.go_types.specs.Tables.{type_of}
use Rattle.go_typed.specs.declared.origin.Origin.{Origin}
use Rattle.go_typed.specs.Packages.{PackageView}
use Rattle.go_print.specs.Names as print
use Rattle.go_print.specs.Texts.{type_text}
use Rattle.escape_check.specs.Places.{name_text, sources_in, text_in}
use Rattle.escape_check.specs.Types.{declared_text, object_text}
use Rattle.extract_texts.specs.Shown.{written}

token-same : (l : TokenList) (o : Option Token) → unwrap_or (option_map (text_of l) o) [] ≡ units.text_in l o
token-same l None = refl
token-same l (Some t) = refl

file-same : (o : Option FileTree) (n : ℕ) → print.text_in o n ≡ text_in o n
file-same None n = refl
file-same (Some f) n = token-same f.tokens (slice_get f.tokens.tokens n)

name-same : (p : PackageView) (o : Option Declared) → print.name_of p o ≡ name_text (sources_in p) o
name-same p None = refl
name-same p (Some d) = file-same (slice_get p.files d.file) d.name

origin-same : (p : PackageView) (o : Option Origin) → print.name_at p o ≡ object_text (sources_in p) (option_map print.object_at o)
origin-same p None = refl
origin-same p (Some o) = name-same p (declared_as p.uses (print.object_at o))

declared-same : (p : PackageView) (n : ℕ) → print.declared_name p n ≡ declared_text (sources_in p) n
declared-same p n = origin-same p (slice_get p.origins n)

-- the text of a type as it is printed
pub written_same : (p : PackageView) (t : ℕ) → type_text (print.declared_name p) (type_of p.types.shapes t) ≡ written p t
written_same p t = ap (λ (f : ℕ → List ℕ). type_text f (type_of p.types.shapes t)) (fun_ext (declared-same p))

pub written_told : (p : PackageView) (t : ℕ) (text : List ℕ) → text ≡ type_text (print.declared_name p) (type_of p.types.shapes t) → text ≡ written p t
written_told p t text e = e ∙ written_same p t
