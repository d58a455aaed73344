-- The keys that stand for some records in the node above them: the least and the greatest.
use Rattle.std.specs.Prelude.{◌≡◌, if◌then◌else◌, List, [], ◌∷◌, ◌++◌, Option, Some, None}
use Rattle.sblock.specs.Form.{Form}
use Rattle.sblock.specs.declared.spans.Span.{Span}

module _ {R K : Type 0} (form : Form R K) where
  abbrev pub later_key : K → K → K
  later_key a b = if form.is_before a b then b else a

  -- of two parts, one behind the other, of which one may be empty
  abbrev pub join : Option (Span K) → Option (Span K) → Option (Span K)
  join None b = b
  join (Some a) None = Some a
  join (Some a) (Some b) = Some (record { low = a.low; high = later_key a.high b.high })

  -- of one record
  abbrev pub span_of_one : R → Span K
  span_of_one r = record { low = form.key_of r; high = form.high_key_of r }

  -- of a leaf's records
  unfoldable pub span_of : List R → Option (Span K)
  span_of [] = None
  span_of (r ∷ rs) = join (Some (span_of_one r)) (span_of rs)

  -- of the subtrees of a node, from their own
  unfoldable pub span_over : List (Span K) → Option (Span K)
  span_over [] = None
  span_over (s ∷ ss) = join (Some s) (span_over ss)

  -- two lists of records, one behind the other
  abbrev pub SpansJoin : Type 0
  SpansJoin = (xs ys : List R) → span_of (xs ++ ys) ≡ join (span_of xs) (span_of ys)

  -- and two lists of subtrees
  abbrev pub NodeSpansJoin : Type 0
  NodeSpansJoin = (xs ys : List (Span K)) → span_over (xs ++ ys) ≡ join (span_over xs) (span_over ys)
