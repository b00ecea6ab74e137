-- Loops over a table that follow links come to the same as loops over every line: `Follows` is such a loop's invariant, and says what is still to do
-- from the line where it stands; lines of other owners between two that are followed change nothing. Then, links that are made of a chunk: those of
-- the tracks that are marked are its own, and all chunks whose lines have the same owners have the same. Assumes nothing.
use mathlib.Core.Path.{◌≡◌, refl, sym, ap, ◌∙◌, subst}
use mathlib.Core.Bool.{Bool, true, cond}
use mathlib.Core.List.{List}
use Prim.Native.Nat.{ℕ, suc, ◌+◌, ◌-◌, ◌≤◌, ◌<◌}
use native.Mathlib.Nat.{le_trans}
use native.Mathlib.Omega.{arith}
use borrow.Author.Tests.{eq-eqb, eqb-true}
use lib.ListN.{length, get_or, replicate, length-replicate}
use lib.Ieee.{Float}
use Rattle.laws.specs.Loop.{downto}
use Rattle.links.proofs.laws.Links.{last_of, last_le, last_owner, last_skips, last_link, next_link, links_cong}
use Rattle.links.proofs.laws.Marks.{Marked, owners_length, owners_there, above_stay, above_closed}
use Rattle.limits.specs.Limits.{track_places}
use Rattle.links.specs.Links.{owners, lines, links_of, last_line, line_before}
use Rattle.links.specs.Marks.{is_marked, owners_marked, all_above_marked}
use Rattle.chunk.specs.declared.chunk.Chunk.{Chunk}
use Rattle.frame.specs.declared.frame.Frame.{Frame}
use Rattle.track_sounds.specs.Owners.{UsedTracks, used_parent, SubTrackLinks, sound_links, route_links, LinksOf, marks_of, used_links}
use Rattle.frame.proofs.laws.Turn.{Steps, turns, down_turn, down_done}
use Rattle.chunk.specs.Chunk.{track_row, route_row, sound_row}

-- The loop stands at line k of m, counted from 1: its owner is `line`, and what the loop over all lines still has to do comes to what it began with.
-- `with` takes a step on each frame of the buffer.
pub record Follows {I : Type 0} (with : (I → Frame → Frame) → List Float → List Float) (g : ℕ → I → Frame → Frame) (m : ℕ) (owner : ℕ → ℕ) (line : ℕ) (begun now : List Float) (k : ℕ) : Type 0 where
  pub few : k ≤ m
  pub own : 0 < k → owner (k - 1) ≡ line
  pub rest : downto (turns with g) k now ≡ downto (turns with g) m begun

module _ {I : Type 0} (with : (I → Frame → Frame) → List Float → List Float) (g : ℕ → I → Frame → Frame) (m : ℕ) (owner : ℕ → ℕ) (line : ℕ) (begun : List Float) where
  -- lines of other owners are passed over, where the buffer is x
  abbrev pub Skips : List Float → Type 0
  Skips x = (k : ℕ) → k < m → (owner k ≡ line → ⊥) → with (g k) x ≡ x

  -- at the last of the first k lines that `line` owns
  at_last : (k j : ℕ) (now : List Float) → Skips now → k ≤ m → j ≡ last_of owner line k → downto (turns with g) k now ≡ downto (turns with g) m begun → Follows with g m owner line begun now j
  at_last k j now skips h e r = record {
    few = omega (arith, h, e, last_le owner line k);
    own = λ p. ap (λ (i : ℕ). owner (i - 1)) e ∙ last_owner owner line k (subst (λ (i : ℕ). 0 < i) e p);
    rest = ap (λ (i : ℕ). downto (turns with g) i now) e ∙ sym (last_skips owner line (turns with g) k now (λ i b d. skips i (le_trans b h) d)) ∙ r;
  }

  pub follow_start : {links : List ℕ} {j : ℕ} → Skips begun → line ≤ track_places → links ≡ links_of owner m → j ≡ last_line links line → Follows with g m owner line begun begun j
  follow_start {links} {j} skips h e a =
      at_last m j begun skips (omega arith) (a ∙ ap (λ (l : List ℕ). get_or l line 0) e ∙ last_link owner line m (omega (arith, h))) refl

  -- the line before k with the same owner
  next : (k : ℕ) (now : List Float) {links : List ℕ} {j : ℕ} → m ≤ lines → line ≤ track_places → links ≡ links_of owner m → j ≡ line_before links k → 0 < k → Follows with g m owner line begun now k → j ≡ last_of owner line (k - 1)
  next k now {links} few h e a p f =
      a
      ∙ ap (λ (l : List ℕ). get_or l (owners + (k - 1)) 0) e
      ∙ next_link owner m (k - 1) few (omega (arith, p, f.few)) (omega (arith, f.own p, h))
      ∙ ap (λ (o : ℕ). last_of owner o (k - 1)) (f.own p)

  pub follow_less : (k : ℕ) (now : List Float) {links : List ℕ} {j : ℕ} → m ≤ lines → line ≤ track_places → links ≡ links_of owner m → j ≡ line_before links k → 0 < k → Follows with g m owner line begun now k → j < k
  follow_less k now few h e a p f = omega (arith, p, next k now few h e a p f, last_le owner line (k - 1))

  pub follow_turn : (k : ℕ) (now : List Float) {links : List ℕ} {j : ℕ} {last : List Float} → Skips last → m ≤ lines → line ≤ track_places → links ≡ links_of owner m → j ≡ line_before links k → 0 < k → Follows with g m owner line begun now k → last ≡ with (g (k - 1)) now → Follows with g m owner line begun last j
  follow_turn k now {links} {j} {last} skips few h e a p f w =
      at_last (k - 1) j last skips (omega (arith, f.few)) (next k now few h e a p f) (down_turn with g begun now k p f.rest w)

  pub follow_done : {room : ℕ} {k : ℕ} {now : List Float} → Steps I with room → room ≤ length begun → k ≡ 0 → Follows with g m owner line begun now k → now ≡ with (λ i a. downto (λ j x. g j i x) m a) begun
  follow_done S r h f = down_done with S g m begun r h f.rest

-- the second of the lines that are followed, where there are two
pub two_there : (links : List ℕ) (line : ℕ) {k next : ℕ} → k ≡ last_line links line → next ≡ line_before links k → 0 < line_before links (last_line links line) → 0 < next
two_there links line a e h = subst (λ (i : ℕ). 0 < i) (sym (e ∙ ap (line_before links) a)) h

-- ---- the links that are made of a chunk are its own

-- the marks of the tracks that are mixed hold all that they must
module _ (c : Chunk) (few : c.track_count ≤ track_places) (earlier : (j : ℕ) → j < c.track_count → (track_row c j).parent ≤ j) where
  abbrev parent : ℕ → ℕ
  parent j = (track_row c j).parent

  abbrev track : ℕ → ℕ
  track k = (sound_row c k).track

  abbrev none : List ℕ
  none = replicate owners 0

  abbrev by_sounds : List ℕ
  by_sounds = owners_marked track c.sound_count none

  abbrev marks : List ℕ
  marks = marks_of c

  sounds_long : length by_sounds ≡ owners
  sounds_long = owners_length track c.sound_count none ∙ length-replicate {A = ℕ} owners 0

  sound_marked : (k : ℕ) → k < c.sound_count → track k < owners → is_marked marks (track k) ≡ true
  unfolding marks_of
  sound_marked k h o =
      let there : Marked by_sounds (track k) = owners_there track c.sound_count k none h o (length-replicate {A = ℕ} owners 0) in
      eq-eqb (get_or marks (track k) 0) 1 (above_stay parent c.track_count (track k) by_sounds there)

  parent_marked : (j : ℕ) → j < c.track_count → is_marked marks (suc j) ≡ true → is_marked marks (parent j) ≡ true
  unfolding marks_of
  parent_marked j h m = eq-eqb (get_or marks (parent j) 0) 1 (above_closed parent c.track_count j by_sounds earlier few sounds_long h (eqb-true (get_or marks (suc j) 0) 1 m))

  pub tracks_linked : {links : List ℕ} → links ≡ used_links c → SubTrackLinks c links
  unfolding used_links
  tracks_linked e = record { used = is_marked marks; all = record { sounds = sound_marked; parents = parent_marked }; links = e }

-- what is worked out step by step
pub links_used : (c : Chunk) {a m r : List ℕ} → a ≡ owners_marked (λ k. (sound_row c k).track) c.sound_count (replicate owners 0) → m ≡ all_above_marked (λ j. (track_row c j).parent) c.track_count a → r ≡ links_of (used_parent c (is_marked m)) c.track_count → r ≡ used_links c
unfolding used_links marks_of
links_used c e p g = g ∙ ap (λ (l : List ℕ). links_of (used_parent c (is_marked l)) c.track_count) (p ∙ ap (all_above_marked (λ j. (track_row c j).parent) c.track_count) e)

-- ---- chunks whose lines have the same owners have the same links

-- All that links read of a chunk: whose each track, route and sound is, and how many there are.
pub record SameOwners (c d : Chunk) : Type 0 where
  pub parents : (j : ℕ) → j < c.track_count → (track_row c j).parent ≡ (track_row d j).parent
  pub route_tracks : (r : ℕ) → r < c.route_count → (route_row c r).track ≡ (route_row d r).track
  pub sound_tracks : (k : ℕ) → k < c.sound_count → (sound_row c k).track ≡ (sound_row d k).track
  pub track_count : c.track_count ≡ d.track_count
  pub route_count : c.route_count ≡ d.route_count
  pub sound_count : c.sound_count ≡ d.sound_count

module _ (c d : Chunk) (same : SameOwners c d) where
  used_kept : {used : ℕ → Bool} → UsedTracks c used → UsedTracks d used
  used_kept {used} u =
      record {
        sounds = λ k h o. let b = subst (λ (n : ℕ). k < n) (sym same.sound_count) h in subst (λ (i : ℕ). used i ≡ true) (same.sound_tracks k b) (u.sounds k b (subst (λ (i : ℕ). i < owners) (sym (same.sound_tracks k b)) o));
        parents = λ j h m. let b = subst (λ (n : ℕ). j < n) (sym same.track_count) h in subst (λ (i : ℕ). used i ≡ true) (same.parents j b) (u.parents j b m);
      }

  sub_tracks_kept : {a : List ℕ} → SubTrackLinks c a → SubTrackLinks d a
  sub_tracks_kept h =
      record {
        used = h.used;
        all = used_kept h.all;
        links =
            h.links
            ∙ links_cong (used_parent c h.used) (used_parent d h.used) c.track_count (λ j b. ap (λ (o : ℕ). cond (h.used (suc j)) o owners) (same.parents j b))
            ∙ ap (links_of (used_parent d h.used)) same.track_count;
      }

  same_sounds : sound_links c ≡ sound_links d
  unfolding sound_links
  same_sounds =
      links_cong (λ k. (sound_row c k).track) (λ k. (sound_row d k).track) c.sound_count same.sound_tracks
      ∙ ap (links_of (λ k. (sound_row d k).track)) same.sound_count

  same_routes : route_links c ≡ route_links d
  unfolding route_links
  same_routes =
      let n = c.route_count in
      links_cong (λ k. (route_row c (n - (k + 1))).track) (λ k. (route_row d (n - (k + 1))).track) n
      (λ k b. same.route_tracks (n - (k + 1)) (omega (arith, b)))
      ∙ ap (λ (m : ℕ). links_of (λ k. (route_row d (m - (k + 1))).track) m) same.route_count

  -- levels and amplitudes do not matter to links
  pub links_kept : {x y z : List ℕ} → LinksOf c x y z → LinksOf d x y z
  links_kept h = record { sub_tracks = sub_tracks_kept h.sub_tracks; sounds = h.sounds ∙ same_sounds; routes = h.routes ∙ same_routes }
