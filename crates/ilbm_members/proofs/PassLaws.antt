-- The pass as a whole: what it keeps for each of the six names and for the BODYs from turn to turn.
use Prim.Native.Nat.{ℕ, ◌≤◌, ◌<◌}
use mathlib.Core.Path.{◌≡◌, refl}
use mathlib.Core.Bool.{Bool, true, false}
use mathlib.Core.List.{List}
use Rattle.std.specs.Prelude.{None}
use lib.Dec.{eqb}
use native.Mathlib.Omega.{arith}
use Rattle.iff_name.specs.Name.{pick, kind_of}
use Rattle.ilbm_spec.specs.Names.{BMHD, CMAP, GRAB, DEST, SPRT, CAMG, BODY}
use Rattle.ilbm_members.specs.declared.Sibling.{Sibling}
use Rattle.ilbm_members.specs.declared.Gathered.{Gathered}
use Rattle.ilbm_members.specs.Members.{Row, Tells}
use Rattle.ilbm_members.specs.Gathers.{Each, Gathers, none_yet, taken_with}
use Rattle.ilbm_members.proofs.GatherLaws.{Looking, looking_start, looking_more, looking_end, Counting, counting_start}
use Rattle.ilbm_members.proofs.GatherLaws.{counting_more, counting_end}

pub record Gathering (s : List ℕ) (p e : ℕ) (whole : Bool) (q : ℕ) (g : Gathered) : Type 0 where
  pub last : Each (λ name x. Looking s p e whole q g.bodies name x) g
  pub bodies : Counting s p e q g.bodies g.body
  pub few : g.bodies ≤ q

module _ (s : List ℕ) (p e : ℕ) (whole : Bool) where
  pub gathering_start : (g : Gathered) → g ≡ none_yet → Gathering s p e whole p g
  gathering_start g i =
      let one : (name : ℕ) → Looking s p e whole p 0 name None = λ name. looking_start s p e whole name in
      rw i (record {
        last = record { bmhd = one BMHD; cmap = one CMAP; grab = one GRAB; dest = one DEST; sprt = one SPRT; camg = one CAMG };
        bodies = counting_start s p e;
        few = omega arith;
      })

  one_most : (b : Bool) → pick b 1 0 ≤ 1
  one_most true = omega arith
  one_most false = omega arith

  pub gathering_more :
      (q : ℕ) (m : Sibling) (g h : Gathered) → Tells s q e m → h ≡ taken_with m.name.code q g whole →
      Gathering s p e whole q g →
      Gathering s p e whole m.next h
  unfolding kind_of
  gathering_more q m g h t i w =
      rw i (record {
        last = record {
          bmhd = looking_more s p e whole q m t BMHD refl refl refl g.bodies g.bmhd w.last.bmhd;
          cmap = looking_more s p e whole q m t CMAP refl refl refl g.bodies g.cmap w.last.cmap;
          grab = looking_more s p e whole q m t GRAB refl refl refl g.bodies g.grab w.last.grab;
          dest = looking_more s p e whole q m t DEST refl refl refl g.bodies g.dest w.last.dest;
          sprt = looking_more s p e whole q m t SPRT refl refl refl g.bodies g.sprt w.last.sprt;
          camg = looking_more s p e whole q m t CAMG refl refl refl g.bodies g.camg w.last.camg;
        };
        bodies = counting_more s p e q m t refl g.bodies g.body w.bodies;
        few = omega (arith, one_most (eqb m.name.code BODY), t.later, w.few);
      })

  pub gathering_end : (q : ℕ) (g : Gathered) → e ≤ q → Gathering s p e whole q g → Gathers s p e whole g
  gathering_end q g l w =
      record {
        last = record {
          bmhd = looking_end s p e whole q _ _ _ l w.last.bmhd;
          cmap = looking_end s p e whole q _ _ _ l w.last.cmap;
          grab = looking_end s p e whole q _ _ _ l w.last.grab;
          dest = looking_end s p e whole q _ _ _ l w.last.dest;
          sprt = looking_end s p e whole q _ _ _ l w.last.sprt;
          camg = looking_end s p e whole q _ _ _ l w.last.camg;
        };
        bodies = counting_end s p e q _ _ l w.bodies;
      }

  pub few_enough : (q : ℕ) (g : Gathered) → Row s q e → q < e → Gathering s p e whole q g → g.bodies < 16777216
  few_enough q g (F, R, h) l w = omega (arith, w.few, h.inside, h.short)
