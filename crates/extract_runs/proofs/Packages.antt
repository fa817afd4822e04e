-- A package of which windows are taken out, tree by tree, is an extraction, and so runs as the old one does.
use Rattle.std.proofs.Common.{ℕ, sym, subst, arith, List, [], Option, slice_get}
use Rattle.std.specs.Prelude.{Bool, ◌+◌}
use Rattle.go_types.specs.Trees.{TypeTree}
use Rattle.go_types.specs.Relations.{Rights}
use Rattle.go_typed.specs.Trees.{Typed, Typeds}
use Rattle.go_meaning.specs.Values.{Value}
use Rattle.go_meaning.specs.Meaning.{Code, Program}
use Rattle.go_meaning_simulation.specs.Links.{nowhere}
use Rattle.go_meaning_simulation.specs.Kin.{Statement, AreKin, all_done, and_kin}
use Rattle.go_meaning_simulation.specs.Locals.{Linked, no_locals, none_here, body_links}
use Rattle.go_meaning_simulation.specs.Mates.{AreMates, MatesOrNone}
use Rattle.go_meaning_simulation.specs.Mates as mates
use Rattle.go_meaning_numbers.specs.Laws.{Moves}
use Rattle.extract_call.specs.Alike.{AreAlike}
use Rattle.extract_call.specs.Extraction.{Member, Extraction, IsWindow, Extracts}
use Rattle.extract_trees.specs.Numberings.{Numbering}
use Rattle.extract_trees.specs.Filled.{Gap}
use Rattle.extract_runs.specs.Holes.{no_hole}
use Rattle.extract_runs.specs.Gaps.{Gapped, GappedParts, GappedList}
use Rattle.extract_runs.specs.Gaps as gaps
use Rattle.extract_runs.specs.Laws.{IsBodySound}
use Rattle.extract_runs.specs.Packages.{TreeExtraction, IsTreeWindow, IsFilled, FilledOrNone, missing, found, AreNumbered, none, more, TreesExtract, ExtractedTreesRunAlike}
use Rattle.extract_runs.proofs.Extractions.{filled_kin, copied_kin}

-- ---- gaps of more windows

module _ (c : Numbering) (gs : List Gap) (held : Value → ℕ → Type 0) (windows others : Typeds TypeTree → Typeds TypeTree → Type 0) (gone : ℕ → Bool) (f : (ws ws' : Typeds TypeTree) → windows ws ws' → others ws ws') where
  mutual
    gapped_more : {n : ℕ} {t : Typed TypeTree} → Gapped c gs held windows gone n t → Gapped c gs held others gone n t
    gapped_more (gaps.node un up hs hc k v ps) = gaps.node un up hs hc k v (parts_more ps)
    gapped_more (gaps.above up o ps) = gaps.above up o (parts_more ps)
    gapped_more (gaps.list is e rows) = gaps.list is e (list_more rows)

    parts_more : {n : ℕ} {ps : Typeds TypeTree} → GappedParts c gs held windows gone n ps → GappedParts c gs held others gone n ps
    parts_more gaps.no_parts = gaps.no_parts
    parts_more (gaps.part a b ab un t ts) = gaps.part a b ab un (gapped_more t) (parts_more ts)
    parts_more (gaps.no_part ts) = gaps.no_part (parts_more ts)

    list_more : {n k u : ℕ} {ps : Typeds TypeTree} → GappedList c gs held windows gone n k u ps → GappedList c gs held others gone n k u ps
    list_more gaps.ends = gaps.ends
    list_more (gaps.left_out rows) = gaps.left_out (list_more rows)
    list_more (gaps.value lt at t rows) = gaps.value lt at (gapped_more t) (list_more rows)
    list_more (gaps.next a b ab lt at un t rows) = gaps.next a b ab lt at un (gapped_more t) (list_more rows)
    list_more (gaps.window {b = b} g le lt at is before w rows) = gaps.window {b = b} g le lt at is before (f _ _ w) (list_more rows)

sound_more : (s : ℕ → ℕ) (old new : Rights) (I : Linked) (windows others : Typeds TypeTree → Typeds TypeTree → Type 0) (c : Numbering) (gs : List Gap) (n : ℕ) (t : Typed TypeTree) →
    ((ws ws' : Typeds TypeTree) → windows ws ws' → others ws ws') → IsBodySound s old new I windows c gs n t → IsBodySound s old new I others c gs n t
sound_more s old new I windows others c gs n t f h = record {
  renumbers = h.renumbers;
  gone = h.gone;
  gapped = gapped_more c gs no_hole windows others h.gone f h.gapped;
  before = h.before;
  behind = h.behind;
  lexical = h.lexical;
}

-- ---- the package

module _ (s : ℕ → ℕ) (k : ℕ) (P Q : Program) where
  module _ (x : TreeExtraction s k P Q) where
    abbrev member_of : (j : ℕ) → Member (Moves s) P Q x.bodies x.h x.new x.statements x.given
    member_of j = record {
      function = (x.member j).function;
      inside = (x.member j).inside;
      old = (x.member j).old;
      gap = (x.member j).gap;
      args = (x.member j).args;
      targets = (x.member j).targets;
      fresh = (x.member j).fresh;
      before = (x.member j).before;
      behind = (x.member j).behind;
      is_gap = (x.member j).is_gap;
      window = copied_kin s P.rights Q.rights (x.member j).inside (x.member j).numbering (x.member j).before (x.member j).behind (x.member j).old x.statements (x.member j).window;
      bound = (x.member j).bound;
      size = (x.member j).size;
      count = (x.member j).count;
      comes = (x.member j).comes;
    }

    abbrev extraction : Extraction (Moves s) P Q k
    extraction = record {
      some = x.some;
      h = x.h;
      new = x.new;
      there = x.there;
      has = x.has;
      statements = x.statements;
      given = x.given;
      is_body = x.is_body;
      bodies = x.bodies;
      member = member_of;
    }

    abbrev Windows : ℕ → Typeds TypeTree → Typeds TypeTree → Type 0
    Windows g ws ws' = IsWindow (Moves s) P Q k extraction g ws ws'

    is_window : (g : ℕ) (ws ws' : Typeds TypeTree) → IsTreeWindow s k P Q x g ws ws' → Windows g ws ws'
    is_window g ws ws' w = record { which = w.which; function_is = w.function_is; old_is = w.old_is; gap_is = w.gap_is }

    mate : (g : ℕ) (old new : Code) → IsFilled s k P Q x g old new → AreMates (Moves s) P Q (x.bodies g) (Windows g) k old new
    mate g old new h = record {
      locals = h.locals;
      new_locals = h.new_locals;
      parameters = h.parameters;
      bodies = h.bodies;
      cost = h.count;
      cheap = h.few;
      tree = subst (λ t. Statement (body_links (Moves s) (x.bodies g) (Windows g) 1 (k + 1)) P.rights Q.rights nowhere tt tt h.count old.body t) (sym h.body)
          (filled_kin s k P.rights Q.rights (x.bodies g) (Windows g) h.numbering h.gaps h.count old.body h.few
          (sound_more s P.rights Q.rights (x.bodies g) (IsTreeWindow s k P Q x g) (Windows g) h.numbering h.gaps h.count old.body (is_window g) h.sound));
    }

    mates_or_none : (g : ℕ) (o o' : Option Code) → FilledOrNone s k P Q x g o o' → MatesOrNone (Moves s) P Q (x.bodies g) (Windows g) k o o'
    mates_or_none g o o' missing = mates.missing
    mates_or_none g o o' (found {old = old} {new = new} h) = mates.found (mate g old new h)

  variables_kin : {ts ts' : List (Typed TypeTree)} → AreNumbered s k P Q ts ts' → AreKin (body_links (Moves s) no_locals none_here 1 (k + 1)) P.rights Q.rights tt ts ts'
  variables_kin none = all_done
  variables_kin (more {t = t} c h rest) = and_kin (filled_kin s k P.rights Q.rights no_locals none_here c [] 0 t (omega arith) h) (variables_kin rest)

  pub extracts : TreesExtract s k P Q → Extracts s k P Q
  extracts e = record {
    windows = extraction e.windows;
    fits = record {
      functions = λ g g' is. subst (λ h. MatesOrNone (Moves s) P Q (e.windows.bodies g) (Windows e.windows g) k (slice_get P.functions g) (slice_get Q.functions h)) (sym is)
          (mates_or_none e.windows g (slice_get P.functions g) (slice_get Q.functions (s g)) (e.functions g));
      mains = e.mains;
      variables = variables_kin e.variables;
    };
    count = e.count;
  }

pub trees_run_alike : ((s : ℕ → ℕ) (k : ℕ) (P Q : Program) → Extracts s k P Q → AreAlike k P Q) → ExtractedTreesRunAlike
trees_run_alike law s k P Q e = law s k P Q (extracts s k P Q e)
