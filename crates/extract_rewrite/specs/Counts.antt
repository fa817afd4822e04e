-- What an extraction hands over and what it drops, by numbers.
use Rattle.std.specs.Prelude.{ℕ, ◌+◌, List, [], ◌++◌, drop, length, map, count_by, sum_by, Option, Some, None, slice_get}
use Rattle.go_base.specs.declared.Span.{Span}
use Rattle.go_tokens.specs.Tokens.{are_between}
use Rattle.go_tree.specs.File.{FileTree}
use Rattle.go_tree.specs.Units.{Place}
use Rattle.go_types.specs.Trees.{TypeTree}
use Rattle.go_typed.specs.declared.window.Window.{Window}
use Rattle.go_typed.specs.Contents.{Content}
use Rattle.param_choose.specs.Choosing.{Choice, chosen_of}
use Rattle.param_choose.specs.Members.{Member, members_of, template_of}
use Rattle.escape_check.specs.Places.{Sources, sources_of}
use Rattle.extract_texts.specs.Texts.{hole_bytes, window_bytes}

abbrev pub comments_of : Option FileTree → List Span
comments_of None = []
comments_of (Some f) = f.tokens.comments

-- how many comments lie among some bytes
abbrev pub comments_in : Sources → Place → ℕ
comments_in s p = count_by (are_between p.start p.end) (comments_of (slice_get s.files p.file))

-- The bytes that are dropped: the windows of other members, and the template's holes that are parameters.
abbrev pub dropped_places : {T : Type 0} → Sources → Member T → Choice T → List (Member T) → List Place
dropped_places s t h others = map (window_bytes s) others ++ map (λ p. hole_bytes s t p.hole) h.holes

abbrev pub dropped_among : Content → Option (Member TypeTree) → List Window → ℕ
dropped_among c None ws = 0
dropped_among c (Some t) ws = sum_by (comments_in (sources_of c)) (dropped_places (sources_of c) t (chosen_of c ws) (members_of c (drop 1 ws)))

-- The comments that are dropped with windows, the first of which is the template.
abbrev pub dropped : Content → List Window → ℕ
dropped c ws = dropped_among c (template_of c ws) ws

-- free locals, and constants that are parameters
abbrev pub parameters_of : Content → List Window → ℕ
parameters_of c ws = length (chosen_of c ws).free + length (chosen_of c ws).holes

-- assigned free locals, and declared variables that are needed
abbrev pub results_of : Content → List Window → ℕ
results_of c ws = length (chosen_of c ws).assigned + length (chosen_of c ws).declared

pub record Counts : Type 0 where
  pub members : ℕ
  pub parameters : ℕ
  pub results : ℕ
  pub dropped : ℕ

abbrev pub counts : Content → List Window → Counts
counts c ws = record { members = length ws; parameters = parameters_of c ws; results = results_of c ws; dropped = dropped c ws }
