-- Rules of names that fail nowhere outside of functions.
use Rattle.std.proofs.Common.{◌≡◌, ◌∙◌, ℕ, suc, Bool, true, false, List, [], ◌∷◌, ◌++◌, refl, sym, ap, subst}
use Rattle.std.specs.Prelude.{if◌then◌else◌, ◌&&◌, not, nat_eq}
use Rattle.go_tokens.specs.Tokens.{TokenList, kinds}
use Rattle.go_grammar.specs.Trees.{Tree, last, parts}
use Rattle.go_tree.specs.Branches.{misplaced, statements}
use Rattle.go_tree.specs.Constants.{list_of, is_list, is_hidden, hidden_lists_by, hidden_in}
use Rattle.go_tree.specs.Contexts.{is_package}
use Rattle.go_tree.specs.Declarations.{Found, found, found_in, is_new, new_among}
use Rattle.go_tree.specs.declared.context.Block.{Block}
use Rattle.go_tree.specs.declared.context.Block.TheVariants as block
use Rattle.go_tree.specs.declared.context.Entity.{Entity}
use Rattle.go_tree.specs.declared.context.Entity.TheVariants as entity
use Rattle.go_tree.specs.declared.context.Manner.TheVariants as manner
use Rattle.go_tree.specs.declared.event.Declaration.{Declaration}
use Rattle.go_tree.specs.declared.event.Event.{Event}
use Rattle.go_tree.specs.declared.event.Event.TheVariants as event
use Rattle.go_tree.specs.Duplicates.{second_defaults}
use Rattle.go_tree.specs.Failures.{place_if, of_files}
use Rattle.go_tree.specs.Lookups.{Asked, is_local, is_counted, is_used, unused_variables}
use Rattle.go_tree.specs.Redeclared.{is_by_define, has_new, none_new}
use Rattle.go_tree.specs.Units.{Place, word, bytes_at}
use Rattle.go_scopes_events.specs.Orders.{EachDeclared, IsOuter}
use Rattle.go_scopes_events.proofs.Public.{each_append}
use Rattle.go_heads.specs.Functions.{AreRead}
use Rattle.go_heads.specs.Heads.{File, IsRead, in_bodies}
use Rattle.go_heads.specs.Objects.{units_of}
use Rattle.go_heads.proofs.Public.{Shared, IsHeaded, file_headed, each_left, each_right}
use Rattle.go_scopes_bodies.specs.Faults.{NothingFailsOutside}
use Rattle.go_scopes_bodies.specs.Outside.{outside_events, outside_units}
use Rattle.go_scopes_bodies.proofs.Lists.{none_both}
use Rattle.go_scopes_bodies.proofs.New.{new_rule, new_by_files}
use Rattle.go_scopes_bodies.proofs.Pieces.{Piece, around, function, told_by, told_around, AroundShared, ArePlaced, file_pieces}
use Rattle.go_scopes_bodies.proofs.Quiet.{AllQuiet, quiet_append}
use Rattle.go_scopes_bodies.proofs.Rules.{EventRule, told_in}
use Rattle.go_scopes_bodies.proofs.Unused.{unused_rule, unused_by_files}

-- ---- quiet events

misplaced_none : (n : ℕ) (l : TokenList) (es : List Event) → AllQuiet es → misplaced n l es ≡ []
misplaced_none n l [] h = refl
misplaced_none n l (event.Misplaced i j ∷ es) h = absurd h.0
misplaced_none n l (event.Use u ∷ es) h = misplaced_none n l es h.1
misplaced_none n l (event.Declaration d ∷ es) h = misplaced_none n l es h.1
misplaced_none n l (event.Import i ∷ es) h = misplaced_none n l es h.1
misplaced_none n l (event.Member m g i ∷ es) h = misplaced_none n l es h.1
misplaced_none n l (event.Bodiless i j ∷ es) h = misplaced_none n l es h.1
misplaced_none n l (event.Statement i j ∷ es) h = absurd h.0
misplaced_none n l (event.SecondDefault i ∷ es) h = absurd h.0

defaults_none : (n : ℕ) (l : TokenList) (es : List Event) → AllQuiet es → second_defaults n l es ≡ []
defaults_none n l [] h = refl
defaults_none n l (event.Misplaced i j ∷ es) h = absurd h.0
defaults_none n l (event.Use u ∷ es) h = defaults_none n l es h.1
defaults_none n l (event.Declaration d ∷ es) h = defaults_none n l es h.1
defaults_none n l (event.Import i ∷ es) h = defaults_none n l es h.1
defaults_none n l (event.Member m g i ∷ es) h = defaults_none n l es h.1
defaults_none n l (event.Bodiless i j ∷ es) h = defaults_none n l es h.1
defaults_none n l (event.Statement i j ∷ es) h = absurd h.0
defaults_none n l (event.SecondDefault i ∷ es) h = absurd h.0

statements_none : (n : ℕ) (l : TokenList) (es : List Event) → AllQuiet es → statements n l es ≡ []
statements_none n l [] h = refl
statements_none n l (event.Misplaced i j ∷ es) h = absurd h.0
statements_none n l (event.Use u ∷ es) h = statements_none n l es h.1
statements_none n l (event.Declaration d ∷ es) h = statements_none n l es h.1
statements_none n l (event.Import i ∷ es) h = statements_none n l es h.1
statements_none n l (event.Member m g i ∷ es) h = statements_none n l es h.1
statements_none n l (event.Bodiless i j ∷ es) h = statements_none n l es h.1
statements_none n l (event.Statement i j ∷ es) h = absurd h.0
statements_none n l (event.SecondDefault i ∷ es) h = absurd h.0

-- ---- names of the package

-- a name of the package, which stands before no `:=`
abbrev pub IsPlainName : Declaration → Type 0
IsPlainName d = IsOuter d.block × (d.manner ≡ manner.Declared)

not_counted : (e : Entity) (b : Block) (x : Bool) → IsOuter b → (is_counted e b && x) ≡ false
not_counted entity.Variable block.Package x h = refl
not_counted entity.Variable (block.Local i) x h = absurd h
not_counted e b x h = refl

abbrev found_at : ℕ → TokenList → Declaration → Found
found_at n l d = record { file = n; name = word l d.name; place = bytes_at n l d.name; it = d }

unused_one : (asks : List Asked) (n : ℕ) (l : TokenList) (d : Declaration) (rest : List Found) (b : Bool) → IsPlainName d → unused_variables asks rest ≡ [] → unused_variables asks (if b then found_at n l d ∷ rest else rest) ≡ []
unused_one asks n l d rest true h e = ap (λ b. place_if b (bytes_at n l d.name) (unused_variables asks rest)) (not_counted d.entity d.block (not (is_used (found_at n l d) asks)) h.0) ∙ e
unused_one asks n l d rest false h e = e

unused_none : (all : List Found) (asks : List Asked) (n : ℕ) (l : TokenList) (es : List Event) → EachDeclared IsPlainName es → unused_variables asks (new_among all (found_in n l es)) ≡ []
unused_none all asks n l [] h = refl
unused_none all asks n l (event.Declaration d ∷ es) h = unused_one asks n l d (new_among all (found_in n l es)) (is_new all (found_at n l d)) h.0 (unused_none all asks n l es h.1)
unused_none all asks n l (event.Use u ∷ es) h = unused_none all asks n l es h
unused_none all asks n l (event.Import i ∷ es) h = unused_none all asks n l es h
unused_none all asks n l (event.Member m g i ∷ es) h = unused_none all asks n l es h
unused_none all asks n l (event.Bodiless i j ∷ es) h = unused_none all asks n l es h
unused_none all asks n l (event.Statement i j ∷ es) h = unused_none all asks n l es h
unused_none all asks n l (event.Misplaced i j ∷ es) h = unused_none all asks n l es h
unused_none all asks n l (event.SecondDefault i ∷ es) h = unused_none all asks n l es h

new_none : (ds : List Found) (n : ℕ) (l : TokenList) (es : List Event) → EachDeclared IsPlainName es → none_new ds (found_in n l es) ≡ []
new_none ds n l [] h = refl
new_none ds n l (event.Declaration d ∷ es) h =
    ap (λ m. place_if (is_by_define m && nat_eq d.column 0 && not (has_new (found_at n l d) ds)) (bytes_at n l d.name) (none_new ds (found_in n l es))) h.0.1 ∙ new_none ds n l es h.1
new_none ds n l (event.Use u ∷ es) h = new_none ds n l es h
new_none ds n l (event.Import i ∷ es) h = new_none ds n l es h
new_none ds n l (event.Member m g i ∷ es) h = new_none ds n l es h
new_none ds n l (event.Bodiless i j ∷ es) h = new_none ds n l es h
new_none ds n l (event.Statement i j ∷ es) h = new_none ds n l es h
new_none ds n l (event.Misplaced i j ∷ es) h = new_none ds n l es h
new_none ds n l (event.SecondDefault i ∷ es) h = new_none ds n l es h

-- no name of the package stands in a function
no_repetition : (b : Block) (x y z : Bool) → IsOuter b → ((is_local b && x && y) && z) ≡ false
no_repetition block.Package x y z h = refl
no_repetition (block.Local i) x y z h = absurd h

lists_none : (text : ℕ → List ℕ) (place : ℕ → Place) (before es : List Event) → EachDeclared IsPlainName es → hidden_lists_by text place before es ≡ []
lists_none text place before [] h = refl
lists_none text place before (event.Declaration d ∷ es) h =
    let more : List Event = before ++ event.Declaration d ∷ [] in
    ap (λ b. place_if b (place d.name) (hidden_lists_by text place more es)) (no_repetition d.block (nat_eq d.column 0) (not (is_list d.statement d.source)) (is_hidden (list_of d) text before) h.0.0)
    ∙ lists_none text place more es h.1
lists_none text place before (event.Use u ∷ es) h = lists_none text place (before ++ event.Use u ∷ []) es h
lists_none text place before (event.Import i ∷ es) h = lists_none text place (before ++ event.Import i ∷ []) es h
lists_none text place before (event.Member m g i ∷ es) h = lists_none text place (before ++ event.Member m g i ∷ []) es h
lists_none text place before (event.Bodiless i j ∷ es) h = lists_none text place (before ++ event.Bodiless i j ∷ []) es h
lists_none text place before (event.Statement i j ∷ es) h = lists_none text place (before ++ event.Statement i j ∷ []) es h
lists_none text place before (event.Misplaced i j ∷ es) h = lists_none text place (before ++ event.Misplaced i j ∷ []) es h
lists_none text place before (event.SecondDefault i ∷ es) h = lists_none text place (before ++ event.SecondDefault i ∷ []) es h

-- ---- what stands around functions

around_quiet : (z : ℕ) (ps : List Piece) → ArePlaced z ps → AllQuiet (told_around ps)
around_quiet z [] p = tt
around_quiet z (around es ∷ ps) p = let x = p.0 in quiet_append es (told_around ps) x.quiet (around_quiet x.upto ps p.1)
around_quiet z (function t ∷ ps) p = around_quiet (last t) ps p.2

around_shared : (ps : List Piece) → AroundShared ps → EachDeclared Shared (told_around ps)
around_shared [] h = tt
around_shared (around es ∷ ps) h = each_append Shared es (told_around ps) h.0 (around_shared ps h.1)
around_shared (function t ∷ ps) h = around_shared ps h

around_each : (Q : Declaration → Type 0) (tells : Tree → List Event) (ps : List Piece) → EachDeclared Q (told_by tells ps) → EachDeclared Q (told_around ps)
around_each Q tells [] h = tt
around_each Q tells (around es ∷ ps) h = each_append Q es (told_around ps) (each_left Q es (told_by tells ps) h) (around_each Q tells ps (each_right Q es (told_by tells ps) h))
around_each Q tells (function t ∷ ps) h = around_each Q tells ps (each_right Q (tells t) (told_by tells ps) h)

outer_package : (b : Block) → IsOuter b → is_package b ≡ true
outer_package block.Package h = refl
outer_package (block.Local i) h = absurd h

module _ (f : File) (r : IsRead f) where
  abbrev Headed : Declaration → Type 0
  Headed = IsHeaded (kinds f.tokens.tokens) (in_bodies (parts f.tree))

  plain_names : (es : List Event) → EachDeclared Shared es → EachDeclared Headed es → EachDeclared IsPlainName es
  plain_names [] h g = tt
  plain_names (event.Declaration d ∷ es) h g = ((h.0, (g.0 (outer_package d.block h.0)).0), plain_names es h.1 g.1)
  plain_names (event.Use u ∷ es) h g = plain_names es h g
  plain_names (event.Import i ∷ es) h g = plain_names es h g
  plain_names (event.Member m o i ∷ es) h g = plain_names es h g
  plain_names (event.Bodiless i j ∷ es) h g = plain_names es h g
  plain_names (event.Statement i j ∷ es) h g = plain_names es h g
  plain_names (event.Misplaced i j ∷ es) h g = plain_names es h g
  plain_names (event.SecondDefault i ∷ es) h g = plain_names es h g

  pub outside_quiet : AllQuiet (outside_events f)
  outside_quiet = let p = file_pieces (kinds f.tokens.tokens) f.tree r.tree in subst AllQuiet (sym p.outside) (around_quiet 0 p.pieces p.placed)

  pub outside_plain : EachDeclared IsPlainName (outside_events f)
  outside_plain =
      let p = file_pieces (kinds f.tokens.tokens) f.tree r.tree in
      let headed : EachDeclared Headed (told_by (told_in f) p.pieces) = subst (EachDeclared Headed) p.whole (file_headed (kinds f.tokens.tokens) f.tree r.tree) in
      subst (EachDeclared IsPlainName) (sym p.outside) (plain_names (told_around p.pieces) (around_shared p.pieces p.shared) (around_each Headed (told_in f) p.pieces headed))

-- ---- files

pub each_file : (rule : EventRule) → ((n : ℕ) (f : File) → IsRead f → rule n f.tokens (outside_events f) ≡ []) → (n : ℕ) (fs : List File) → AreRead fs → of_files rule n (outside_units fs) ≡ []
each_file rule one n [] h = refl
each_file rule one n (f ∷ fs) h = none_both (rule n f.tokens (outside_events f)) (of_files rule (suc n) (outside_units fs)) (one n f h.0) (each_file rule one (suc n) fs h.1)

pub nothing_outside : (fs : List File) → AreRead fs → NothingFailsOutside fs
nothing_outside fs h = record {
  branches = each_file misplaced (λ n f r. misplaced_none n f.tokens (outside_events f) (outside_quiet f r)) 0 fs h;
  defaults = each_file second_defaults (λ n f r. defaults_none n f.tokens (outside_events f) (outside_quiet f r)) 0 fs h;
  statements = each_file statements (λ n f r. statements_none n f.tokens (outside_events f) (outside_quiet f r)) 0 fs h;
  some_new = λ ds. new_by_files ds 0 (outside_units fs) ∙ each_file (new_rule ds) (λ n f r. new_none ds n f.tokens (outside_events f) (outside_plain f r)) 0 fs h;
  variables =
      λ asks.
      unused_by_files (found (units_of fs)) asks 0 (outside_units fs)
      ∙ each_file (unused_rule (found (units_of fs)) asks) (λ n f r. unused_none (found (units_of fs)) asks n f.tokens (outside_events f) (outside_plain f r)) 0 fs h;
  lists = each_file hidden_in (λ n f r. lists_none (word f.tokens) (bytes_at n f.tokens) [] (outside_events f) (outside_plain f r)) 0 fs h;
}
