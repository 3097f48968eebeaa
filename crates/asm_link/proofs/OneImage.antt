-- A source has one image at most.
use Rattle.std.proofs.Common.{◌≡◌, ◌≢◌, ℕ, List, [], ◌∷◌, None, refl, sym, ◌∙◌}
use Rattle.std.specs.List.{AllZip}
use Rattle.pmsi_model.specs.declared.image.Piece.{Piece}
use Rattle.pmsi_model.specs.Image.{ImageValue}
use Rattle.asm_parse.specs.Mnemonics.{Code, Instruction, Raw}
use Rattle.asm_parse.specs.declared.fault.AsmFault.{AsmFault}
use Rattle.asm_parse.specs.declared.fault.AsmFault.TheVariants.{At, NoMemory}
use Rattle.asm_parse.specs.Assembly.{HasAsmFault, IsAssembled, IsWordOf, asm_fault, text_of}
use Rattle.asm_link.specs.Laws.{AssemblesOnce, ImagesHaveNoFault}
use Rattle.rv_decode.proofs.Exports.{encoding_back}
use Rattle.asm_link.proofs.SamePieces.{same_pieces}

same_words : (codes : List Code) (words others : List ℕ) → AllZip IsWordOf codes words → AllZip IsWordOf codes others → words ≡ others
same_words [] [] [] are others_are = refl
same_words [] [] (other ∷ others) are others_are = absurd others_are
same_words [] (word ∷ words) others are others_are = absurd are
same_words (code ∷ codes) [] others are others_are = absurd are
same_words (code ∷ codes) (word ∷ words) [] are others_are = absurd others_are
same_words (Instruction instr ∷ codes) (word ∷ words) (other ∷ others) are others_are =
    let same : word ≡ other = sym (encoding_back word instr are.0).is ∙ (encoding_back other instr others_are.0).is in
    let rest : words ≡ others = same_words codes words others are.1 others_are.1 in
    cc
same_words (Raw width n ∷ codes) (word ∷ words) (other ∷ others) are others_are =
    let rest : words ≡ others = same_words codes words others are.1 others_are.1 in
    cc

joined : (text words : List ℕ) (pieces others : List Piece) → text ≡ words → pieces ≡ others → ◌≡◌ {A = ImageValue} (record { text = text; pieces = pieces }) (record { text = words; pieces = others })
joined text words pieces others same all = cc

pub one_image : AssemblesOnce
one_image source image other is other_is =
    joined image.text other.text image.pieces other.pieces (same_words (text_of source) image.text other.text is.text other_is.text)
    (same_pieces 0 0 image.pieces other.pieces is.within.pieces other_is.within.pieces (λ address. is.memory address ∙ sym (other_is.memory address)))

pub no_fault : ImagesHaveNoFault
no_fault source image fault is has = let none : asm_fault source ≡ None = is.faultless in cc

-- where a source has an image, memory alone can be wanting
pub only_memory : (source : List ℕ) (image : ImageValue) (fault : AsmFault) → IsAssembled source image → (fault ≢ NoMemory → HasAsmFault source fault) → fault ≡ NoMemory
only_memory source image NoMemory is told = refl
only_memory source image (At line cause) is told = absurd (no_fault source image (At line cause) is (told (λ e. cc)))
