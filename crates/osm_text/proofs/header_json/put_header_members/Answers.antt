use Rattle.std.proofs.Common.{◌≡◌, ◌++◌, codes, rules}
use Rattle.std.proofs.lemmas.Result.{on_ok_weaker}
use Rattle.pbf_header.specs.Header.{header_of}
use Rattle.osm_text.specs.HeaderJson.{list_member}
use Rattle.osm_text.proofs.JsonLemmas.{members_put}
use Rattle.osm_text.proofs.header_json.put_header_members.Goals as goal

pub returns : goal.returns
returns c =
    let header = header_of c.args.header.now in
    let required : c.put_list_member.new.out.items ≡ c.put_box_member.new.out.items ++ list_member (codes "required") header.required = search rules in
    let optional : c.put_list_member-2.new.out.items ≡ c.put_list_member.new.out.items ++ list_member (codes "optional") header.optional = search rules in
    on_ok_weaker c.put_text_member-3.result (λ last. members_put header _ _ _ _ _ _ _ _ _ c.in_ok-put_box_member.ensures required optional c.in_ok-put_text_member.ensures c.in_ok-put_text_member-2.ensures c.in_ok-put_number_member.ensures c.in_ok-put_number_member-2.ensures last) c.put_text_member-3.ensures
