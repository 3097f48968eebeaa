-- What was taken from some tokens.
use Rattle.std.proofs.Common.{◌≡◌, List, map, refl}
use Rattle.std.proofs.lemmas.Simd.{map-map}
use Rattle.asm_operands.specs.declared.expr.Expr as code_expr
use Rattle.asm_parse.specs.declared.item.Width.{Width}
use Rattle.asm_operands.specs.Operands.{Lexeme, Taken, take_exprs}
use Rattle.asm_parse.specs.Assembly.{number_item, read_items, read_numbers}
use Rattle.asm_parse.specs.Items.{bytes_in, fits_in, number_of}
use Rattle.asm_operands.specs.Meanings.{expr}

-- the numbers of a line of data, by those that were taken
pub numbers_read : (width : Width) (numbers : List code_expr.Expr) (xs left : List Lexeme) → take_exprs xs ≡ Taken (map expr numbers) left → read_numbers (bytes_in width) (fits_in width) xs ≡ read_items (bytes_in width) (Taken (map (number_of width) numbers) left)
numbers_read width numbers xs left is = rw is (rw (map-map (number_item (bytes_in width) (fits_in width)) expr numbers) refl)
