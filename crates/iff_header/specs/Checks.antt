-- 01 "Order of checks and numbers": the checks of the header at a place.
use Rattle.std.specs.Prelude.{ℕ, ◌+◌, ◌-◌, ◌%◌, ◌≤◌, ◌<◌, ◌≡◌, List, false, not, ltb, eqb}
use Rattle.iff_name.specs.Name.{pick, well_formed, version_name, kind_of}
use Rattle.iff_name.specs.declared.Kind.{Kind}
use Rattle.iff_rules.specs.declared.Position.{Position}
use Rattle.iff_chunk.specs.Chunks.{word}
use Rattle.iff_rules.specs.Rules.{is_group, misplaced, group_type, second_prop}
use Rattle.iff_header.specs.declared.Header.{Header}
use Rattle.iff_header.specs.declared.Header.TheVariants.{Leaf, Group}
use Rattle.iff_refusal.specs.declared.Reason.TheVariants.{VersionName, HeaderCut, BadName, Misplaced, SizeTooGreat, NoPad}
use Rattle.iff_refusal.specs.declared.Reason.TheVariants.{TooDeep, GroupTooShort, BadType, SecondProp}
use Rattle.iff_refusal.specs.declared.Reason.{Reason}
use Rattle.std.specs.Prelude.{Ok, Err, Result}

-- 9: "a group at level 17"; 10: "a group of size under 4"; 11: "type not allowed"; 12: "second PROP of the same type in this LIST". Of a
-- group of kind k and size z at p; `levels` is how many levels of groups may still be opened.
unfoldable pub group_header_of : ℕ → List ℕ → ℕ → Kind → ℕ → ℕ → Result Header Reason
group_header_of levels s from k z p =
    pick (eqb levels 0) (Err TooDeep)
    (pick (ltb z 4) (Err GroupTooShort)
    (pick (not (group_type k (word s (p + 8)))) (Err BadType)
    (pick (second_prop k s from p (word s (p + 8))) (Err SecondProp)
    (Ok (Group k z)))))

-- 7: "size greater than e - p - 8"; 8: "odd size and no pad byte before e"; then 9 to 12. Of the chunk of kind k at p, in a parent that
-- ends at e and whose members begin at `from`.
abbrev pub sized_header_of : ℕ → List ℕ → ℕ → Kind → ℕ → ℕ → Result Header Reason
sized_header_of levels s from k p e =
    pick (ltb (e - p - 8) (word s (p + 4))) (Err SizeTooGreat)
    (pick (ltb (e - p - 8 - word s (p + 4)) (word s (p + 4) % 2)) (Err NoPad)
    (pick (is_group k) (group_header_of levels s from k (word s (p + 4)) p)
    (Ok (Leaf (word s (p + 4))))))

-- The header at p in a parent that ends at e and whose members begin at `from`: the lines of 01's table, in its order. 4: "fewer than 8
-- bytes from p to e"; 5: "name not well formed"; 3: "version name"; 6: "JJJJ as a chunk, or this kind not allowed here"; then 7 to 12.
unfoldable pub header_of : ℕ → List ℕ → ℕ → Position → ℕ → ℕ → Result Header Reason
header_of levels s from w p e =
    pick (ltb (e - p) 8) (Err HeaderCut)
    (pick (not (well_formed (word s p))) (Err BadName)
    (pick (version_name (word s p)) (Err VersionName)
    (pick (misplaced w (word s p)) (Err Misplaced)
    (sized_header_of levels s from (kind_of (word s p)) p e))))

-- What is known of a header that is no refusal: the size is its own, the chunk lies inside the parent, and of a group the kind
-- is its own too, its size has room for a type and a level is left for it.
pub record LeafFits (s : List ℕ) (p e z : ℕ) : Type 0 where
  pub size : z ≡ word s (p + 4)
  pub ends : p + 8 + z + z % 2 ≤ e
  pub plain : is_group (kind_of (word s p)) ≡ false

pub record GroupFits (levels : ℕ) (s : List ℕ) (p e : ℕ) (k : Kind) (z : ℕ) : Type 0 where
  pub size : z ≡ word s (p + 4)
  pub ends : p + 8 + z + z % 2 ≤ e
  pub kind : k ≡ kind_of (word s p)
  pub typed : 4 ≤ z
  pub level : 0 < levels

abbrev pub Fitting : ℕ → List ℕ → ℕ → ℕ → Result Header Reason → Type 0
Fitting levels s p e (Err k) = Unit
Fitting levels s p e (Ok (Leaf z)) = LeafFits s p e z
Fitting levels s p e (Ok (Group k z)) = GroupFits levels s p e k z

-- What is known of a group's header by 9 to 12 alone.
abbrev pub Opened : ℕ → Kind → ℕ → Result Header Reason → Type 0
Opened levels k z (Err n) = Unit
Opened levels k z (Ok (Leaf z')) = ⊥
Opened levels k z (Ok (Group k' z')) = (k' ≡ k) × (z' ≡ z) × (4 ≤ z) × (0 < levels)
