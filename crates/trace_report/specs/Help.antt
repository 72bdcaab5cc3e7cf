-- The end of a report: how to read it, and the sign that it is whole. All of it is fixed, but that words on answers stand on
-- pages alone that have some.
use Rattle.std.specs.Prelude.{ℕ, Bool, List, [], ◌++◌, codes, if◌then◌else◌}

-- the heading of the help
abbrev pub help_heading : List ℕ
help_heading = codes "<footer id=\"help\">\n<h2>How to read this page</h2>\n"

-- the words of the help on the slowest answers, where there are answers
abbrev pub slow_words : Bool → List ℕ
slow_words answers = if answers then codes " The slowest answers of the verdict go by that time, but for any with a minus, and say how many replies before them were pending." else []

-- the words of the help on times, where there are answers or are none
abbrev pub times_words : Bool → List ℕ
times_words answers =
    codes "Times are in seconds from the first frame of the two identifiers, and those of a message are of its last frame; <i>after</i> is the time from the last frame of the request to the first frame of the reply, with a minus where the clock of the log went back."
    ++ slow_words answers ++ codes "</p>\n"

-- the words of the help on answers that are other than was asked, where there are answers
abbrev pub echo_words : Bool → List ℕ
echo_words answers =
    if answers then codes "A positive answer that has other bytes than its request where it should repeat them (ISO 14229-1) says what it answers and what was asked; a masked byte is not compared. " else []

-- the words of the help on what the page of one log shows
abbrev pub help_front : Bool → List ℕ
help_front answers =
    help_heading
    ++ codes "<p>The left line is the tester, the right line the unit. Each arrow is a message, however many frames carried it, in the order in which the messages were complete. "
    ++ echo_words answers ++ times_words answers

-- the legend of the rows of an exchange
abbrev pub exchange_legend : List ℕ
exchange_legend =
    codes "<div class=\"q\"><dt>request</dt><dd>opens an item; its number is that of <code>udsnorm list</code></dd></div>\n"
    ++ codes "<div class=\"ok\"><dt>positive</dt><dd>the answer of the unit</dd></div>\n"
    ++ codes "<div class=\"n\"><dt>negative</dt><dd>the answer of the unit, with the name of its response code</dd></div>\n"
    ++ codes "<div class=\"p\"><dt>pending</dt><dd>says that the answer will be late; no part of what is compared</dd></div>\n"
    ++ codes "<div class=\"m\"><dt>no answer</dt><dd>none came before the next request or the end of the log</dd></div>\n"
    ++ codes "<div class=\"p\"><dt>silent</dt><dd>none came, and the request asked for none</dd></div>\n"

-- the legend of all other rows
abbrev pub others_legend : List ℕ
others_legend =
    codes "<div class=\"p\"><dt>keep-alive</dt><dd>3E 80, which wants no answer</dd></div>\n"
    ++ codes "<div class=\"s\"><dt>stray</dt><dd>a message that belongs to no exchange, an item of its own</dd></div>\n"
    ++ codes "<div class=\"x\"><dt>dropped</dt><dd>a frame that belongs to no complete message</dd></div>\n"
    ++ codes "<div class=\"x\"><dt>ended, unfinished</dt><dd>a message of which not all frames came</dd></div>\n"

-- the legend: what each row tells
abbrev pub legend_text : List ℕ
legend_text = codes "<dl class=\"legend\">\n" ++ exchange_legend ++ others_legend ++ codes "</dl>\n"

-- the words of the help on the names behind bytes, of which edition of a standard they are, and on trouble codes
abbrev pub names_words : List ℕ
names_words =
    codes "Small words in brackets behind the bytes are names that the standards have for the first ones: for many sub-functions, data identifiers and routines. "
    ++ codes "They are those of ISO 14229-1:2020, but for 0F to 13 of ReadDTCInformation, which are of its edition of 2013. Only that of 2020 has 56 there, and the response codes 34, 38 to 3A, 50 to 5D and 94. "
    ++ codes "A service of OBD (ISO 15031-5) or of KWP2000 (ISO 14230) has its name where a message begins as a request of it does."
    ++ codes " The trouble codes of a response of ReadDTCInformation are read as those of SAE J2012, of whatever format they are, each with the names of the bits that are 1 in its status; of more than 16 the others are counted."

-- the words of the help on what a page does not show
abbrev pub limits_text : List ℕ
limits_text =
    codes "<p>Frames with other identifiers, padding, the interface, and flow control that is in its place mean nothing here. A message of which no frame was recorded leaves no trace, also in a clean recording. "
    ++ codes "Grey letters after the bytes are those same bytes as text, with a dot for each that is no letter, digit or blank, nor one of <code>- . / : _</code>. "
    ++ names_words

-- the words of the help on blocks that are folded
abbrev pub blocks_words : List ℕ
blocks_words = codes " In a long session the first ten blocks are open, and the others folded and brief."

-- the end of the help, and the sign that the page is whole, which hides the notice of its front
abbrev pub tail_text : List ℕ
tail_text = codes "</p>\n</footer>\n</div>\n<p id=\"end\">End of the report.</p>\n</body>\n</html>\n"

-- the end of the page of one log, which has answers or has none
abbrev pub help_text : Bool → List ℕ
help_text answers = help_front answers ++ legend_text ++ limits_text ++ blocks_words ++ tail_text
