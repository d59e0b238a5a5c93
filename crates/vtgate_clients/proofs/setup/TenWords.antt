-- Ten words, by their places.
use Rattle.std.proofs.Common.{◌≡◌, List, [], ◌∷◌, length, get_or, map, sym, ap, ◌∙◌, arith}

ten : {X : Type 0} (words : List X) (a b c d e f g h i j : X) → length words ≡ 10 → a ≡ get_or words 0 a → b ≡ get_or words 1 b → c ≡ get_or words 2 c → d ≡ get_or words 3 d → e ≡ get_or words 4 e → f ≡ get_or words 5 f → g ≡ get_or words 6 g → h ≡ get_or words 7 h → i ≡ get_or words 8 i → j ≡ get_or words 9 j
    → words ≡ a ∷ b ∷ c ∷ d ∷ e ∷ f ∷ g ∷ h ∷ i ∷ j ∷ []
ten [] a b c d e f g h i j n ea eb ec ed ee ef eg eh ei ej = absurd (omega (arith, n))
ten (x0 ∷ []) a b c d e f g h i j n ea eb ec ed ee ef eg eh ei ej = absurd (omega (arith, n))
ten (x0 ∷ x1 ∷ []) a b c d e f g h i j n ea eb ec ed ee ef eg eh ei ej = absurd (omega (arith, n))
ten (x0 ∷ x1 ∷ x2 ∷ []) a b c d e f g h i j n ea eb ec ed ee ef eg eh ei ej = absurd (omega (arith, n))
ten (x0 ∷ x1 ∷ x2 ∷ x3 ∷ []) a b c d e f g h i j n ea eb ec ed ee ef eg eh ei ej = absurd (omega (arith, n))
ten (x0 ∷ x1 ∷ x2 ∷ x3 ∷ x4 ∷ []) a b c d e f g h i j n ea eb ec ed ee ef eg eh ei ej = absurd (omega (arith, n))
ten (x0 ∷ x1 ∷ x2 ∷ x3 ∷ x4 ∷ x5 ∷ []) a b c d e f g h i j n ea eb ec ed ee ef eg eh ei ej = absurd (omega (arith, n))
ten (x0 ∷ x1 ∷ x2 ∷ x3 ∷ x4 ∷ x5 ∷ x6 ∷ []) a b c d e f g h i j n ea eb ec ed ee ef eg eh ei ej = absurd (omega (arith, n))
ten (x0 ∷ x1 ∷ x2 ∷ x3 ∷ x4 ∷ x5 ∷ x6 ∷ x7 ∷ []) a b c d e f g h i j n ea eb ec ed ee ef eg eh ei ej = absurd (omega (arith, n))
ten (x0 ∷ x1 ∷ x2 ∷ x3 ∷ x4 ∷ x5 ∷ x6 ∷ x7 ∷ x8 ∷ []) a b c d e f g h i j n ea eb ec ed ee ef eg eh ei ej = absurd (omega (arith, n))
ten (x0 ∷ x1 ∷ x2 ∷ x3 ∷ x4 ∷ x5 ∷ x6 ∷ x7 ∷ x8 ∷ x9 ∷ []) a b c d e f g h i j n ea eb ec ed ee ef eg eh ei ej = λ i. sym ea i ∷ sym eb i ∷ sym ec i ∷ sym ed i ∷ sym ee i ∷ sym ef i ∷ sym eg i ∷ sym eh i ∷ sym ei i ∷ sym ej i ∷ []
ten (x0 ∷ x1 ∷ x2 ∷ x3 ∷ x4 ∷ x5 ∷ x6 ∷ x7 ∷ x8 ∷ x9 ∷ y ∷ words) a b c d e f g h i j n ea eb ec ed ee ef eg eh ei ej = absurd (omega (arith, n))

-- the words' meanings
pub ten_of : {X Y : Type 0} (text : X → Y) (words : List X) (a b c d e f g h i j : X) (ta tb tc td te tf tg th ti tj : Y) → length words ≡ 10
    → a ≡ get_or words 0 a → b ≡ get_or words 1 b → c ≡ get_or words 2 c → d ≡ get_or words 3 d → e ≡ get_or words 4 e → f ≡ get_or words 5 f → g ≡ get_or words 6 g → h ≡ get_or words 7 h → i ≡ get_or words 8 i → j ≡ get_or words 9 j
    → text a ≡ ta → text b ≡ tb → text c ≡ tc → text d ≡ td → text e ≡ te → text f ≡ tf → text g ≡ tg → text h ≡ th → text i ≡ ti → text j ≡ tj
    → map text words ≡ ta ∷ tb ∷ tc ∷ td ∷ te ∷ tf ∷ tg ∷ th ∷ ti ∷ tj ∷ []
ten_of text words a b c d e f g h i j ta tb tc td te tf tg th ti tj n ea eb ec ed ee ef eg eh ei ej sa sb sc sd se sf sg sh si sj =
    ap (map text) (ten words a b c d e f g h i j n ea eb ec ed ee ef eg eh ei ej) ∙ (λ i. sa i ∷ sb i ∷ sc i ∷ sd i ∷ se i ∷ sf i ∷ sg i ∷ sh i ∷ si i ∷ sj i ∷ [])
