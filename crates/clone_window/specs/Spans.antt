-- The bytes of windows.
use Rattle.std.specs.Prelude.{ℕ, zero, suc, ◌+◌, ◌-◌, nat_le, if◌then◌else◌, List, [], ◌∷◌, ◌++◌, map, Option, Some, None, Result, Ok, Err, slice_get}
use Rattle.go_base.specs.declared.Span.{Span}
use Rattle.go_base.specs.Optional.{◌>>=◌}
use Rattle.go_grammar.specs.Trees.{first, parts}
use Rattle.go_tokens.specs.declared.token.Token.{Token}
use Rattle.go_tree.specs.File.{FileTree}
use Rattle.go_tree.specs.declared.node.Node.{Node}
use Rattle.go_tree.specs.Lists.{functions, function_here}
use Rattle.go_tree.specs.Spans.{span_at}
use Rattle.go_tree.specs.Views as tree
use Rattle.go_tree.specs.Views.{behind_first}
use Rattle.go_typed.specs.declared.window.Window.{Window}
use Rattle.go_typed.specs.Funcs.{FuncView, tree_of}
use Rattle.go_typed.specs.Packages.{PackageView}
use Rattle.go_typed.specs.Trees.{Typeds, none, more, skip, first_of, last_of}
use Rattle.go_typed.specs.Windows.{Range}
use Rattle.clone_window.specs.declared.span.FunctionPlace.{FunctionPlace}
use Rattle.clone_window.specs.Windows.{window_statements}

-- ---- functions

-- the first tokens of the functions of a file
abbrev pub starts_in : FileTree → List ℕ
starts_in f = map first (functions (behind_first (parts (tree.view f.root))))

-- the first token of a declaration, if it is a function
abbrev pub starts_here : Option Node → List ℕ
starts_here d = map first (function_here d)

abbrev pub place_at : ℕ → ℕ → FunctionPlace
place_at file first = record { file = file; first = first }

-- where the functions of files stand, the first of which has the number n, in order: the file and the first token in it
abbrev pub places_from : ℕ → List FileTree → List FunctionPlace
places_from n [] = []
places_from n (f ∷ fs) = map (place_at n) (starts_in f) ++ places_from (suc n) fs

-- the number of this place; or, where there are not so many, how many are left to count behind them
abbrev pub sought : List ℕ → ℕ → Result ℕ ℕ
sought [] n = Err n
sought (t ∷ ts) zero = Ok t
sought (t ∷ ts) (suc n) = sought ts n

-- ---- windows

-- the token behind the last part, or this one where there is no part
abbrev pub last_from : {T : Type 0} → ℕ → Typeds T → ℕ
last_from j none = j
last_from j (more p ps) = last_from (last_of p) ps
last_from j (skip ps) = last_from j ps

-- the tokens of statements, counted from the first one of their function: from the first one of the first statement to the last one
-- of the last statement
abbrev pub range_over : {T : Type 0} → Typeds T → Option Range
range_over none = None
range_over (more p ps) = Some (record { from = first_of p; to = last_from (last_of p) ps })
range_over (skip ps) = None

abbrev pub window_range : FuncView → Window → Option Range
window_range f w = range_over (window_statements (tree_of f) w)

-- the bytes of a file from one up to another
pub record ByteRange : Type 0 where
  pub file : ℕ
  pub start : ℕ
  pub end : ℕ

abbrev pub bytes_of : Span → ByteRange
bytes_of s = record { file = s.file; start = s.start; end = s.end }

-- from the start of the one to the end of the other, if that lies behind
abbrev pub joined : Span → Span → Option ByteRange
joined a b = if nat_le a.start b.end then Some (record { file = a.file; start = a.start; end = b.end }) else None

-- from the first byte of the token of one number to the last one of the token in front of another
abbrev pub span_over : List Token → ℕ → ℕ → Option ByteRange
span_over ts from to = span_at ts from >>= λ a. span_at ts (to - 1) >>= joined a

abbrev pub span_in : FunctionPlace → Range → FileTree → Option ByteRange
span_in place r f = span_over f.tokens.tokens (place.first + r.from) (place.first + r.to)

abbrev pub span_there : List FileTree → Range → FunctionPlace → Option ByteRange
span_there files r place = slice_get files place.file >>= span_in place r

-- The bytes of a window: from the first byte of its first token to the last byte of its last one, in the file of its function.
abbrev pub window_span : PackageView → Window → Option ByteRange
window_span p w = slice_get p.functions w.func >>= λ f. window_range f w >>= λ r. slice_get (places_from 0 p.files) w.func >>= span_there p.files r

abbrev pub nowhere : ByteRange
nowhere = record { file = 0; start = 0; end = 0 }
