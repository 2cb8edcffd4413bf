mod SixWords
