mod AsciiShown
