-- The settings (document 01, "Settings"; the ninth by document 02).
use Rattle.std.specs.Prelude.{Bool, true, false}
use Rattle.state.specs.declared.config.Config.{Config}

-- "`check_end_names` and `trim_markup_names_in_closing_tags` on, the other six off"; the ninth "off by default"
abbrev pub defaults : Config
defaults =
    record {
      allow_dangling_amp = false;
      allow_unmatched_ends = false;
      check_comments = false;
      check_end_names = true;
      expand_empty_elements = false;
      trim_markup_names_in_closing_tags = true;
      trim_text_start = false;
      trim_text_end = false;
      check_open_names = false;
    }

-- text trimmed at both ends or at neither
abbrev pub trim_text : Config → Bool → Config
trim_text c on =
    record {
      allow_dangling_amp = c.allow_dangling_amp;
      allow_unmatched_ends = c.allow_unmatched_ends;
      check_comments = c.check_comments;
      check_end_names = c.check_end_names;
      expand_empty_elements = c.expand_empty_elements;
      trim_markup_names_in_closing_tags = c.trim_markup_names_in_closing_tags;
      trim_text_start = on;
      trim_text_end = on;
      check_open_names = c.check_open_names;
    }

-- comments and closing names checked or neither
abbrev pub all_checks : Config → Bool → Config
all_checks c on =
    record {
      allow_dangling_amp = c.allow_dangling_amp;
      allow_unmatched_ends = c.allow_unmatched_ends;
      check_comments = on;
      check_end_names = on;
      expand_empty_elements = c.expand_empty_elements;
      trim_markup_names_in_closing_tags = c.trim_markup_names_in_closing_tags;
      trim_text_start = c.trim_text_start;
      trim_text_end = c.trim_text_end;
      check_open_names = c.check_open_names;
    }
