-- The lines that the code finds by the block's links and asks by its marks. Assumes nothing.
use mathlib.Core.Path.{◌≡◌, sym, ap, ◌∙◌}
use mathlib.Core.Bool.{Bool, false, cond}
use mathlib.Core.List.{List}
use mathlib.Core.Logic.{◌≢◌}
use Prim.Native.Nat.{ℕ, suc, ◌<◌}
use borrow.Author.Tests.{ne_eqb}
use lib.Dec.{eqb}
use Rattle.limits.specs.Limits.{blocks_most}
use Rattle.laws.proofs.laws.Choice.{cond-false, first_no}
use Rattle.scene.specs.declared.scene.Scene.{Scene}
use Rattle.accepted.specs.Lines.{order_line}
use Rattle.order_lines.specs.Orders.{last_lines, counts_by, counts}
use Rattle.order_lines.proofs.laws.Marks.{counts_marked}
use Rattle.order_links.specs.Links.{block_of, block_links, first_line, next_line}
use Rattle.order_links.proofs.laws.Links.{First, first_read, next_read}
use Rattle.order_links.proofs.laws.Walk.{Reading, reading_first, reading_next}
use Rattle.mixer.specs.declared.mixer.Mixer.{Mixer}
use Rattle.mixer.specs.Orders.{ordered_by, resumed_by, order_step, resume_step}
use Rattle.mixer_orders.specs.There.{OrdersThere}
use Rattle.mixer_orders.proofs.laws.There.{line_fits}

module _ (s : Scene) (block : ℕ) where
  -- before line v of the block
  abbrev pub Orders : Mixer → ℕ → Mixer → Type 0
  Orders m₀ v m = Reading (order_step s block) s.order_count (block_of s.orders) block m₀ v m

  abbrev pub Resumes : Mixer → ℕ → Mixer → Type 0
  Resumes m₀ v m = Reading (resume_step s block) s.order_count (block_of s.orders) block m₀ v m

  skipped : (i : ℕ) → block_of s.orders i ≢ block → counts s.orders s.order_count block i ≡ false
  unfolding counts
  skipped i h = sym (first_no (eqb (order_line s i).block block) _ (ne_eqb (order_line s i).block block h))

  order_skipped : (i : ℕ) → i < s.order_count → block_of s.orders i ≢ block → (m : Mixer) → order_step s block i m ≡ m
  unfolding order_step
  order_skipped i b h m = cond-false _ _ _ (skipped i h)

  resume_skipped : (i : ℕ) → i < s.order_count → block_of s.orders i ≢ block → (m : Mixer) → resume_step s block i m ≡ m
  unfolding resume_step
  resume_skipped i b h m = cond-false _ _ _ (skipped i h)

  module _ (ok : OrdersThere s) {links : List ℕ} (e : links ≡ block_links (block_of s.orders) s.order_count) where
    first_found : {v : ℕ} → block < blocks_most → v ≡ first_line links block → First (block_of s.orders) s.order_count block 0 v
    first_found h r = first_read (block_of s.orders) s.order_count ok.few ok.blocks e block h r

    pub next_found : (i : ℕ) {v : ℕ} → i < s.order_count → block_of s.orders i ≡ block → v ≡ next_line links i → First (block_of s.orders) s.order_count block (suc i) v
    next_found i b h r = next_read (block_of s.orders) s.order_count ok.few ok.blocks e block i b h r

    pub orders_first : (m : Mixer) {v : ℕ} → block < blocks_most → v ≡ first_line links block → Orders m v m
    orders_first m h r = reading_first (order_step s block) s.order_count m (block_of s.orders) block order_skipped (first_found h r)

    pub resumes_first : (m : Mixer) {v : ℕ} → block < blocks_most → v ≡ first_line links block → Resumes m v m
    resumes_first m h r = reading_first (resume_step s block) s.order_count m (block_of s.orders) block resume_skipped (first_found h r)

    module _ (i : ℕ) {v : ℕ} {marks : List ℕ} {b : Bool} (more : i < s.order_count) (r : v ≡ next_line links i)
        (marked : marks ≡ last_lines s.orders s.order_count block) (counted : b ≡ counts_by marks (order_line s i) i) where
      counts_read : block_of s.orders i ≡ block → b ≡ counts s.orders s.order_count block i
      counts_read h =
          counted ∙ ap (λ (z : List ℕ). counts_by z (order_line s i) i) marked
          ∙ counts_marked s.orders s.order_count block i (λ j c. line_fits (order_line s j) (ok.there j c)) more h

      module _ (m₀ : Mixer) {m next : Mixer} where
        pub orders_next : next ≡ cond b (ordered_by (order_line s i).kind (order_line s i) m) m → Orders m₀ i m → Orders m₀ v next
        unfolding order_step
        orders_next done k =
            reading_next (order_step s block) s.order_count m₀ (block_of s.orders) block order_skipped i more (next_found i more (k.here more) r)
            (done ∙ ap (λ (x : Bool). cond x (ordered_by (order_line s i).kind (order_line s i) m) m) (counts_read (k.here more))) k

        pub resumes_next : next ≡ cond b (resumed_by (order_line s i).kind (order_line s i) m) m → Resumes m₀ i m → Resumes m₀ v next
        unfolding resume_step
        resumes_next done k =
            reading_next (resume_step s block) s.order_count m₀ (block_of s.orders) block resume_skipped i more (next_found i more (k.here more) r)
            (done ∙ ap (λ (x : Bool). cond x (resumed_by (order_line s i).kind (order_line s i) m) m) (counts_read (k.here more))) k
