use Rattle.std.proofs.Common.{◌≡◌, arith}
use Rattle.std.proofs.lemmas.Grind.{common_steps}
use Rattle.pmsi_model.specs.Image.{IsImage}
use Rattle.asm_print.specs.ListingText.{listing_text}
use Rattle.asm_print.proofs.Sources.{assembled}
use Rattle.asm_print.proofs.Ascii.{listing_utf8}
use Rattle.asm_print.proofs.Lengths.{listing_short}
use Rattle.asm_print.proofs.image_text.listing_of.Goals as goal

pub returns : goal.returns
unfolding listing_text
returns c =
    let printed : c.push_data.new.out.items ≡ listing_text c.args.image.now = grind (arith, common_steps) in
    let is : IsImage c.args.image.now = c.text.ensures.image in
    record {
      text = printed;
      assembles = assembled c.push_data.new.out.items c.args.image.now printed is;
      within = listing_short c.push_data.new.out.items c.args.image.now printed is;
      utf8 = listing_utf8 c.push_data.new.out.items c.args.image.now printed is;
    }
