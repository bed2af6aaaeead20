-- Claimed.
-- The parse errors of a page, in order of their places.
use Rattle.std.specs.Prelude.{ℕ, cond, nat_lt, List, [], ◌∷◌, ◌++◌, map, slice_index_or}
use Rattle.html_tokens.specs.declared.faults.Fault.{Fault}
use Rattle.html_parser.specs.declared.faults.PageFault.{PageFault}
use Rattle.html_parser.specs.declared.faults.PageFaultName.TheVariants.{Tokenizer, TreeConstruction}

-- an error of the tokenizer
abbrev pub told_fault : Fault → PageFault
told_fault f = record { name = Tokenizer f.name; place = f.place }

-- an error of tree construction for a token that begins at a place
abbrev pub construction_fault : ℕ → PageFault
construction_fault place = record { name = TreeConstruction; place = place }

-- the longest front of numbers that are less than k, and what follows it
abbrev pub front_below : ℕ → List ℕ → List ℕ
front_below k [] = []
front_below k (p ∷ ps) = cond (nat_lt p k) (p ∷ front_below k ps) []

abbrev pub rest_from : ℕ → List ℕ → List ℕ
rest_from k [] = []
rest_from k (p ∷ ps) = cond (nat_lt p k) (rest_from k ps) (p ∷ ps)

-- Those that the tokenizer told, in their order, and one of tree construction for each of these places, which stands before the first of the
-- others that has a later place.
abbrev pub fault_list : List Fault → List ℕ → List PageFault
fault_list [] places = map construction_fault places
fault_list (f ∷ fs) places =
    map construction_fault (front_below f.place places) ++ told_fault f ∷ fault_list fs (rest_from f.place places)

-- the places where the tokens of these numbers begin
abbrev pub places_of : List ℕ → List ℕ → List ℕ
places_of starts numbers = map (λ i. slice_index_or starts i 0) numbers
