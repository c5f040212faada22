-- Other records of a block, before and behind those of its cycle: where none of them is a feed, the depths stay what they are.
-- Assumes nothing.
use mathlib.Core.Path.{◌≡◌, refl, sym, ap, ◌∙◌, subst}
use mathlib.Core.List.{List, [], ◌∷◌, ◌++◌, append-nil}
use lib.IntN.{ℤ}
use borrow.Author.Tests.{ne_eqb}
use Rattle.moves.specs.declared.Record.{Record}
use Rattle.axes.specs.Goes.{inward_of, across_of}
use Rattle.turning.specs.Turned.{feed_kind, each_depth}
use Rattle.turning.proofs.Turned.{Reads}
use Rattle.strokes.specs.Strokes.{Inward, lines_at, depths_at, AddUp, Cut, DepthsAddUp}
use Rattle.strokes.proofs.Reading.{passed_over, lines_append}

abbrev pub NoFeeds : List Record → Type 0
NoFeeds [] = Unit {0}
NoFeeds (r ∷ rs) = (r.kind ≡ feed_kind → ⊥) × NoFeeds rs

no_lines : (w : Inward) (a : ℤ) (rs : List Record) → NoFeeds rs → lines_at w a rs ≡ []
unfolding lines_at
no_lines w a [] h = refl
no_lines w a (r ∷ rs) h =
    let reads : Reads w.facing r r.kind (inward_of w.facing r) (across_of w.facing r) = record { kind = refl; inward = refl; across = refl } in
    passed_over w a reads rs (ne_eqb r.kind feed_kind h.0) ∙ no_lines w a rs h.1

module _ (w : Inward) (before rs after : List Record) (h : NoFeeds before) (k : NoFeeds after) where
  same_lines : (a : ℤ) → lines_at w a (before ++ (rs ++ after)) ≡ lines_at w a rs
  same_lines a =
      lines_append w a before (rs ++ after)
      ∙ (λ i. no_lines w a before h i ++ lines_append w a rs after i)
      ∙ ap (λ (l : List ℤ). lines_at w a rs ++ l) (no_lines w a after k)
      ∙ append-nil (lines_at w a rs)

  same_depths : (a : ℤ) → depths_at w a rs ≡ depths_at w a (before ++ (rs ++ after))
  same_depths a = sym (ap (each_depth w.side w.start) (same_lines a))

  pub adds_up_between : DepthsAddUp w rs → DepthsAddUp w (before ++ (rs ++ after))
  adds_up_between p = record {
    place = p.place;
    there = subst (AddUp w.stroke) (same_depths p.place) p.there;
    each = λ a. subst (Cut w.stroke) (same_depths a) (p.each a);
  }
